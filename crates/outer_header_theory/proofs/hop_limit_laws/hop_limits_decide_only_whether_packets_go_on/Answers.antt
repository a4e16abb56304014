use Rattle.outer_header_theory.proofs.AtSids.{one_course}
use Rattle.outer_header_theory.proofs.hop_limit_laws.hop_limits_decide_only_whether_packets_go_on.Goals as goal

pub returns : goal.returns
returns c = one_course
