use Rattle.std.proofs.Common.{Ok, sym, ◌∙◌}
use Rattle.net_model.specs.NetworkTerms.{network_of}
use Rattle.net_flatness.specs.Search.{first_nested}
use Rattle.net_flatness.proofs.SearchLemmas.{refused_for, passed_over}
use Rattle.net_flatness.proofs.nested.refuse_nested_in.Goals as goal

pub returns-in-Some : goal.returns-in-Some
returns-in-Some c =
    sym (refused_for c.args.outer.now (first_nested (network_of c.args.parts.now) c.args.outer.now) _ (Ok tt)
    (sym c.first_entry_inside.ensures ∙ c.in-Some.is))

pub returns-in-None : goal.returns-in-None
returns-in-None c =
    sym (passed_over c.args.outer.now (first_nested (network_of c.args.parts.now) c.args.outer.now) (Ok tt)
    (sym c.first_entry_inside.ensures ∙ c.in-None.is))
