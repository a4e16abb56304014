use Rattle.std.proofs.Common.{arith}
use Rattle.std.proofs.lemmas.Grind.{common_steps}
use Rattle.pcapng_io.proofs.Prefix.{has_form_least}
use Rattle.pcapng_io.proofs.ng_block.formed.Goals as goal

pub held-requires : goal.held-requires
held-requires c = grind (arith, common_steps, has_form_least)
