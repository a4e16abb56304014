use Rattle.v6_addr.proofs.GrammarLaws.{address_text_is}
use Rattle.v6_addr.proofs.laws.address_grammar.Goals as goal

pub returns : goal.returns
returns c = address_text_is
