use Rattle.std.proofs.Common.{Option, Some, None, sym, ap, ◌∙◌}
use Rattle.std.specs.Prelude.{if◌then◌else◌}
use Rattle.std.specs.Option.{option_or}
use Rattle.net_model.specs.declared.net.Hit.{Hit}
use Rattle.net_model.specs.Network.{is_shown}
use Rattle.net_model.specs.NetworkTerms.{hidden_hits}
use Rattle.net_model.proofs.FirstLemmas.{first_by_table}
use Rattle.net_model.proofs.hidden.first_after.Goals as goal

pub returns-in-Some : goal.returns-in-Some
returns-in-Some c =
    let e = c.args.e.now in
    let own : Option Hit = if is_shown (hidden_hits c.args.hidden.now) e.hit then Some e.hit else None in
    ap (λ o. option_or o own) (sym c.in-Some.is)
    ∙ first_by_table c.args.parts.now c.args.hidden.now e c.in-Route.field-0 c.args.tables.now c.requires.rules c.requires.listed
    c.requires.tables c.in-Route.is c.hit_on.result c.unless_route.result c.hit_on.ensures c.unless_route.ensures

pub returns-then-is_shown : goal.returns-then-is_shown
returns-then-is_shown c =
    let e = c.args.e.now in
    let own : Option Hit = if is_shown (hidden_hits c.args.hidden.now) e.hit then Some e.hit else None in
    ap (λ b. option_or None (if b then Some e.hit else None)) (sym c.if-is_shown.true ∙ c.is_shown.ensures)
    ∙ (ap (λ o. option_or o own) (sym c.in-None.is)
    ∙ first_by_table c.args.parts.now c.args.hidden.now e c.in-Route.field-0 c.args.tables.now c.requires.rules c.requires.listed
    c.requires.tables c.in-Route.is c.hit_on.result c.unless_route.result c.hit_on.ensures c.unless_route.ensures)

pub returns-else-is_shown : goal.returns-else-is_shown
returns-else-is_shown c =
    let e = c.args.e.now in
    let own : Option Hit = if is_shown (hidden_hits c.args.hidden.now) e.hit then Some e.hit else None in
    ap (λ b. option_or None (if b then Some e.hit else None)) (sym c.if-is_shown.false ∙ c.is_shown.ensures)
    ∙ (ap (λ o. option_or o own) (sym c.in-None.is)
    ∙ first_by_table c.args.parts.now c.args.hidden.now e c.in-Route.field-0 c.args.tables.now c.requires.rules c.requires.listed
    c.requires.tables c.in-Route.is c.hit_on.result c.unless_route.result c.hit_on.ensures c.unless_route.ensures)
