use Rattle.std.proofs.Common.{◌<◌, ◌≤◌, drop, length, sym, ap, subst, ◌∙◌}
use Rattle.std.specs.Prelude.{IfSome}
use Rattle.leg_table.specs.TransitTables.{IsOrigin, way_along}
use Rattle.leg_table.specs.StrictTableTerms.{LegTable}
use Rattle.leg_table.specs.declared.step_links.Behind.{Behind}
use Rattle.binding_legs.proofs.OriginTables.{way_from}
use Rattle.binding_legs.proofs.binding_legs.BindingLegs.way.Goals as goal

pub way_on-requires-clause-next : goal.way_on-requires-clause-next
way_on-requires-clause-next c = subst (λ (t : LegTable). c.args.next < length t.net.sids) (sym c.strict.ensures) c.requires

pub way_on-requires-clause-start : goal.way_on-requires-clause-start
way_on-requires-clause-start c =
    subst (λ (t : LegTable). IsOrigin t.net t.intent c.in_ok-origin.origin.done c.in_ok-origin.origin.place) (sym c.strict.ensures)
    c.in_ok-origin.ensures.origins.is_origin

pub returns-clause-value : goal.returns-clause-value
returns-clause-value c =
    c.way_on.ensures.value
    ∙ ap (λ (t : LegTable). way_along t.net (drop c.in_ok-origin.origin.done t.intent.steps) c.in_ok-origin.origin.place c.args.next)
    c.strict.ensures
    ∙ way_from c.args.self.now.net c.args.self.now.intent c.args.position c.args.via c.args.next c.in_ok-origin.origin
    c.in_ok-origin.ensures.value

pub returns-clause-few : goal.returns-clause-few
returns-clause-few c =
    subst (λ (t : LegTable). IfSome c.way_on.result (λ (b : Behind). (b.left ≤ length t.intent.steps) × (b.lowered ≤ 48))) c.strict.ensures
    c.way_on.ensures.few
