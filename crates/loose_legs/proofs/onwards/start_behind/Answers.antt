use Rattle.std.proofs.Common.{Some, true, false, ◌∙◌}
use Rattle.loose_legs.proofs.OnwardRows.{no_start, start_behind_law, start_place}
use Rattle.loose_legs.proofs.LooseTablePositions.{at_stands}
use Rattle.loose_legs.proofs.onwards.start_behind.Goals as goal

pub returns-then-not-is_sid_at-clause-value : goal.returns-then-not-is_sid_at-clause-value
returns-then-not-is_sid_at-clause-value c =
    no_start c.args.net.now c.args.intent.now c.args.steps.now c.args.position c.args.via
    (at_stands c.args.net.now c.args.intent.now c.args.steps.now c.args.position c.args.stands c.args.via c.is_sid_at.result
    false c.requires.stands c.is_sid_at.ensures c.if-not-is_sid_at.true)

pub returns-clause-value : goal.returns-clause-value
returns-clause-value c =
    c.place_behind.ensures
    ∙ start_behind_law c.args.net.now c.args.intent.now c.args.steps.now c.args.position c.args.via c.requires.within
    (at_stands c.args.net.now c.args.intent.now c.args.steps.now c.args.position c.args.stands c.args.via c.is_sid_at.result
    true c.requires.stands c.is_sid_at.ensures c.if-not-is_sid_at.false)

pub returns-clause-is_place : goal.returns-clause-is_place
returns-clause-is_place c =
    start_place c.args.net.now c.args.intent.now c.args.steps.now c.keeps_rules.ensures.facts c.requires.steps c.args.position
    (Some c.args.via) c.place_behind.result (returns-clause-value c)
