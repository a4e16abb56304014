use Rattle.std.proofs.Common.{sym, subst}
use Rattle.intent_reader.specs.FunctionsTerms.{IsFunctionNumbered}
use Rattle.intent_reader.proofs.FunctionLemmas.{function_numbered_means}
use Rattle.intent_reader.proofs.names.function_named.Goals as goal

pub returns-clause-meaning : goal.returns-clause-meaning
returns-clause-meaning c =
    subst (λ o. IsFunctionNumbered c.args.title.now c.args.net.now o) (sym c.first_function.ensures)
    (function_numbered_means c.args.title.now c.args.net.now)
