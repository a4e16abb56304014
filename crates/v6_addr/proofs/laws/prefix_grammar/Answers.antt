use Rattle.v6_addr.proofs.PrefixGrammar.{prefix_text_is}
use Rattle.v6_addr.proofs.laws.prefix_grammar.Goals as goal

pub returns : goal.returns
returns c = prefix_text_is
