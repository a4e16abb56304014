use Rattle.v6_addr.proofs.PrefixGrammar4.{address4_text_is, prefix4_text_is}
use Rattle.v6_addr.proofs.laws.texts4_are_read.Goals as goal

pub returns : goal.returns
returns c = record { address = address4_text_is; prefix = prefix4_text_is }
