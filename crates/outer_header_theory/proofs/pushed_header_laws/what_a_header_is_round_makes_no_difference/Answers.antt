use Rattle.outer_header_theory.proofs.PushedHeaderHeads.{one_fate}
use Rattle.outer_header_theory.proofs.pushed_header_laws.what_a_header_is_round_makes_no_difference.Goals as goal

pub returns : goal.returns
returns c = one_fate
