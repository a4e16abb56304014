use Rattle.std.proofs.Common.{sym, subst}
use Rattle.net_model.specs.NamedTerms.{IsLinkNumbered}
use Rattle.net_model.proofs.NamedLemmas.{link_numbered_means}
use Rattle.net_model.proofs.named.place_of_link.Goals as goal

pub returns-clause-meaning : goal.returns-clause-meaning
returns-clause-meaning c =
    subst (IsLinkNumbered c.args.name.now c.args.links.now) (sym c.first_link.ensures)
    (link_numbered_means c.args.name.now c.args.links.now)
