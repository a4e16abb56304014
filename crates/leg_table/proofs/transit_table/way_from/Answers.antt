use Rattle.leg_table.specs.declared.step_links.Behind.{Behind}
use Rattle.std.proofs.Common.{Option, subst, sym, ◌≤◌}
use Rattle.std.specs.Prelude.{IfSome}
use Rattle.walk_rules.specs.WayTerms.{way_in}
use Rattle.leg_table.proofs.TransitTableLemmas.{way_item}
use Rattle.leg_table.proofs.transit_table.way_from.Goals as goal

pub way_by-requires-clause-few_lowered : goal.way_by-requires-clause-few_lowered
way_by-requires-clause-few_lowered c =
    subst (λ (o : Option Behind). IfSome o (λ b. b.lowered ≤ 48)) (sym c.way_at.ensures) (c.requires.few_lowered c.args.next)

pub returns : goal.returns
returns c =
    way_item c.args.net.now c.keeps_rules.ensures.facts c.args.steps.now c.args.place.now c.args.next c.args.later.now c.sid.result.now
    c.value-destination.result.value (way_in c.way_of-way.result) c.way_at.result c.way_by.result c.requires.is_place.1 c.requires.family
    c.requires.stands c.requires.later c.sid.ensures c.value-destination.ensures.value c.way_of-way.ensures.value c.way_at.ensures
    c.way_by.ensures
