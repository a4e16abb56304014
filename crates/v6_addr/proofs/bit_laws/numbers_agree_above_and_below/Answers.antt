use Rattle.v6_addr.proofs.PrefixFacts.{same_above}
use Rattle.v6_addr.proofs.Fields.{same_below}
use Rattle.v6_addr.proofs.BitLaws.{same_from_both}
use Rattle.v6_addr.proofs.bit_laws.numbers_agree_above_and_below.Goals as goal

pub returns : goal.returns
returns c = record { above = same_above; below = same_below; same = same_from_both }
