use Rattle.std.proofs.Common.{◌≡◌, ℕ, true, Option, Some, None, sym, ◌∙◌}
use Rattle.net_model.specs.Network.{Network}
use Rattle.list_pack.specs.LegsValue.{LegsValue}
use Rattle.list_judge_theory.specs.ListCourses.{may_end}
use Rattle.list_judge.specs.CourseTurns.{FinishesAt}
use Rattle.list_judge.proofs.CourseSids.{ends_nowhere, goes_on, stops_at}
use Rattle.list_judge.proofs.course.turn_at.Goals as goal

-- no finish there
none_at : (v : LegsValue) (net : Network) (tail position : ℕ) (via : Option ℕ) (left sid : ℕ) (o : Option ℕ) → o ≡ None
    → FinishesAt v net tail position via left sid o → may_end net tail sid left ≡ true → v.finish position via sid ≡ None
none_at v net tail position via left sid None e is = is
none_at v net tail position via left sid (Some hops) e is = absurd (cc)

pub returns-in-None-Some : goal.returns-in-None-Some
returns-in-None-Some g c =
    let v = g.L.Legs.seen c.args.legs.now in
    let net = c.args.net.now in
    let position = c.args.at.now.position in
    let via = c.args.at.now.via in
    let none = ends_nowhere v net c.requires.laws c.requires.sids position via c.args.prefix.now c.args.tail c.args.left c.args.sid
    c.requires.next
    (none_at v net c.args.tail position via c.args.left c.args.sid c.finish_at-finish.result c.in-None-Some.is-0 c.finish_at-finish.ensures) in
    goes_on v net c.requires.laws c.requires.sids position via c.args.prefix.now c.args.tail c.args.left c.args.sid c.requires.next
    c.in-None-Some.leg none (sym c.leg-leg.ensures ∙ c.in-None-Some.is-1)

pub returns-in-None-None : goal.returns-in-None-None
returns-in-None-None g c =
    let v = g.L.Legs.seen c.args.legs.now in
    let net = c.args.net.now in
    let position = c.args.at.now.position in
    let via = c.args.at.now.via in
    let none = ends_nowhere v net c.requires.laws c.requires.sids position via c.args.prefix.now c.args.tail c.args.left c.args.sid
    c.requires.next
    (none_at v net c.args.tail position via c.args.left c.args.sid c.finish_at-finish.result c.in-None-None.is-0 c.finish_at-finish.ensures) in
    stops_at v net c.requires.laws c.requires.sids position via c.args.prefix.now c.args.tail c.args.left c.args.sid c.requires.next none
    (sym c.leg-leg.ensures ∙ c.in-None-None.is-1)
