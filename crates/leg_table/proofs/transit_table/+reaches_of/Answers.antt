use Rattle.std.proofs.Common.{rules, true, List, length, ◌≡◌, ◌-◌, refl, subst, arith}
use Rattle.std.specs.Prelude.{is_some}
use Rattle.std.proofs.lemmas.Option.{slice_get_read}
use Rattle.intent_reader.specs.IntentRules.{stand_after}
use Rattle.intent_reader.specs.declared.intent.Step.{Step}
use Rattle.leg_table.proofs.TransitTableLemmas.{ways_few}
use Rattle.leg_table.proofs.TransitTableRows.{after_within, after_stands, reaches_more, last_ways, ways_later}
use Rattle.leg_table.proofs.transit_table.+reaches_of.Goals as goal

pub reaches_of-requires : goal.reaches_of-requires
reaches_of-requires t c =
    let net = c.args.net.now in
    let step = c.in-Some.step.now in
    let rest = c.in-Some.rest.now in
    let to = c.node_behind-to.result in
    let opens = subst (λ (ts : List Step). is_some (stand_after net c.args.node ts) ≡ true) c.in-Some.ensures.cases.0 c.requires.stands in (
      search rules,
      (
        after_within net c.keeps_rules.ensures.facts c.args.node to step c.requires.is_there c.node_behind-to.ensures,
        (omega (arith, c.in-Some.ensures.cases.1), after_stands net c.args.node to step rest opens c.node_behind-to.ensures),
      ),
    )

pub reach_of-requires-2-clause-later : goal.reach_of-requires-2-clause-later
reach_of-requires-2-clause-later t c =
    let net = c.args.net.now in
    let rest = c.in-Some.rest.now in
    let to = c.node_behind-to.result in
    let reaches = c.in_ok-reaches.reaches.items in
    let some = c.in_ok-reaches.ensures.count in
    let last = slice_get_read reaches (length reaches) (c.len.result - 1) c.index.result.now refl (omega (arith, some, c.len.ensures))
    c.index.ensures in
    ways_later net c.args.node to c.args.steps.now c.in-Some.step.now rest c.as_slice-later.result.now c.in-Some.ensures.cases.0
    c.node_behind-to.ensures
    (last_ways net to rest reaches c.index.result.now (c.len.result - 1) c.as_slice-later.result.now c.in_ok-reaches.ensures
    (omega (arith, some, c.len.ensures)) last c.as_slice-later.ensures.value)

pub reach_of-requires-2-clause-few_lowered : goal.reach_of-requires-2-clause-few_lowered
reach_of-requires-2-clause-few_lowered t c =
    let net = c.args.net.now in
    let step = c.in-Some.step.now in
    let rest = c.in-Some.rest.now in
    let to = c.node_behind-to.result in
    let reaches = c.in_ok-reaches.reaches.items in
    let some = c.in_ok-reaches.ensures.count in
    let last = slice_get_read reaches (length reaches) (c.len.result - 1) c.index.result.now refl (omega (arith, some, c.len.ensures))
    c.index.ensures in
    let opens = subst (λ (ts : List Step). is_some (stand_after net c.args.node ts) ≡ true) c.in-Some.ensures.cases.0 c.requires.stands in
    ways_few net c.keeps_rules.ensures.facts rest to c.as_slice-later.result.now true
    (last_ways net to rest reaches c.index.result.now (c.len.result - 1) c.as_slice-later.result.now c.in_ok-reaches.ensures
    (omega (arith, some, c.len.ensures)) last c.as_slice-later.ensures.value)
    (after_stands net c.args.node to step rest opens c.node_behind-to.ensures)
    (omega (arith, c.in-Some.ensures.cases.1))

pub returns : goal.returns
returns t c =
    reaches_more c.args.net.now c.args.node c.node_behind-to.result c.args.steps.now c.in-Some.step.now c.in-Some.rest.now
    c.in_ok-reach.reach c.in_ok-reaches.reaches.items c.push-2.new.self.items c.in-Some.ensures.cases.0 c.in_ok-reaches.ensures
    c.in_ok-reach.ensures c.node_behind-to.ensures c.in_ok-push-2.ensures.items
