use Rattle.std.proofs.Common.{sym, subst}
use Rattle.net_model.specs.NamedTerms.{IsNodeNumbered}
use Rattle.net_model.proofs.NamedLemmas.{node_numbered_means}
use Rattle.net_model.proofs.named.place_of_node.Goals as goal

pub returns-clause-meaning : goal.returns-clause-meaning
returns-clause-meaning c =
    subst (IsNodeNumbered c.args.name.now c.args.nodes.now) (sym c.first_node.ensures)
    (node_numbered_means c.args.name.now c.args.nodes.now)
