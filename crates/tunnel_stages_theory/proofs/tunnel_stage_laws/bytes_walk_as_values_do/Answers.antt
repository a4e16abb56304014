use Rattle.tunnel_stages_theory.proofs.Following.{walk_follows}
use Rattle.tunnel_stages_theory.proofs.tunnel_stage_laws.bytes_walk_as_values_do.Goals as goal

pub returns : goal.returns
returns c = walk_follows
