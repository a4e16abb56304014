use Rattle.tunnel_walks_theory.proofs.Needs.{need, need_path}
use Rattle.tunnel_walks_theory.proofs.laws.a_packet_has_a_need.Goals as goal

pub returns-clause-need : goal.returns-clause-need
returns-clause-need g c = need

pub returns-clause-same : goal.returns-clause-same
returns-clause-same g c = need_path
