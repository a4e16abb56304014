use Rattle.std.proofs.Common.{◌≡◌, ◌++◌, List, ℕ, length, take, drop, sym, ◌∙◌, ap, subst, set, true, false, Bool}
use Rattle.std.specs.Prelude.{replicate}
use Rattle.std.proofs.lemmas.Option.{MatchOption-at_none}
use Rattle.shortest_paths.specs.Settling.{Entries, SettlesSoFar, NoneIsOpen}
use Rattle.shortest_paths.proofs.Lists.{take_front}
use Rattle.shortest_paths.proofs.Rounds.{settles_start, settles_all}
use Rattle.shortest_paths.proofs.SettlingTurns.{turn_fits, turn_links, turn_settles}
use Rattle.shortest_paths.proofs.settling.distances.Goals as goal

pub group_incoming-requires : goal.group_incoming-requires
group_incoming-requires c = λ k d within. (c.requires.network.each k d within).to

pub loop-nearest-init : goal.loop-nearest-init
loop-nearest-init c =
    let long : length c.in_ok-entries.entries.items ≡ c.args.nodes = c.in_ok-entries.ensures.long in
    record {
      long = long;
      settles = settles_start c.args.links.now c.args.targets.now c.in_ok-entries.entries.items c.in_ok-settled.settled.items
          c.in_ok-entries.ensures.starts
          (c.in_ok-settled.ensures ∙ ap (λ (n : ℕ). replicate n false) (sym long));
    }

pub relax_links-requires-clause-fits : goal.relax_links-requires-clause-fits
relax_links-requires-clause-fits c =
    turn_fits c.args.nodes c.args.links.now c.args.targets.now c.requires.network c.in_ok-into.into.items c.in_ok-into.ensures
    c.loop-nearest.entries.items c.loop-nearest.settled.items c.in-Some.nearest c.loop-nearest.invariant.long
    c.loop-nearest.invariant.settles
    c.as_slice.result.now c.as_slice.ensures.value c.as_slice-in-loop-nearest.result.now c.as_slice-in-loop-nearest.ensures.value
    c.in-Some.ensures

pub relax_links-requires-clause-links : goal.relax_links-requires-clause-links
relax_links-requires-clause-links c =
    turn_links c.args.nodes c.args.links.now c.args.targets.now c.requires.network c.in_ok-into.into.items c.in_ok-into.ensures
    c.loop-nearest.entries.items c.loop-nearest.settled.items c.in-Some.nearest c.loop-nearest.invariant.long
    c.loop-nearest.invariant.settles
    c.as_slice.result.now c.as_slice.ensures.value c.as_slice-in-loop-nearest.result.now c.as_slice-in-loop-nearest.ensures.value
    c.in-Some.ensures
    c.index.result.now c.index.ensures c.as_slice-incoming.result.now c.as_slice-incoming.ensures.value
    c.as_mut_slice.result.now c.as_mut_slice.ensures.value

pub loop-nearest-preserved : goal.loop-nearest-preserved
loop-nearest-preserved c =
    let entries = c.loop-nearest.entries in
    let new = c.relax_links.new.entries in
    let settles : SettlesSoFar c.args.links.now c.args.targets.now new (set c.loop-nearest.settled.items c.in-Some.nearest.node true) =
    turn_settles c.args.nodes c.args.links.now c.args.targets.now c.requires.network c.in_ok-into.into.items c.in_ok-into.ensures
    c.loop-nearest.entries.items c.loop-nearest.settled.items c.in-Some.nearest c.loop-nearest.invariant.long
    c.loop-nearest.invariant.settles
    c.as_slice.result.now c.as_slice.ensures.value c.as_slice-in-loop-nearest.result.now c.as_slice-in-loop-nearest.ensures.value
    c.in-Some.ensures
    c.index.result.now c.index.ensures c.as_slice-incoming.result.now c.as_slice-incoming.ensures.value
    c.as_mut_slice.result.now c.as_mut_slice.ensures.value new c.relax_links.ensures in
    let long : length new ≡ c.args.nodes = c.relax_links.ensures.long ∙ (ap length c.as_mut_slice.ensures.value
    ∙ c.loop-nearest.invariant.long) in
    let own : entries.len ≡ length entries.items = cc in
    let same : entries.len ≡ length new = own ∙ (c.loop-nearest.invariant.long ∙ sym long) in
    let front : take entries.len (new ++ drop (length new) entries.items) ≡ new = take_front new _ entries.len same in
    record {
      long = ap length front ∙ long;
      settles = subst
          (λ (t : Entries). SettlesSoFar c.args.links.now c.args.targets.now t (set c.loop-nearest.settled.items c.in-Some.nearest.node
          true)) (sym front) settles;
    }

pub returns-clause-exact : goal.returns-clause-exact
returns-clause-exact c =
    let none : NoneIsOpen c.as_slice.result.now c.as_slice-in-loop-nearest.result.now (length c.as_slice.result.now)
    = MatchOption-at_none _ _ c.in_default.is c.find_nearest.ensures in
    settles_all c.args.links.now c.args.targets.now c.loop-nearest.entries.items c.loop-nearest.settled.items
    c.loop-nearest.invariant.settles
    (subst (λ (t : Entries). NoneIsOpen t c.loop-nearest.settled.items (length t)) c.as_slice.ensures.value
    (subst (λ (s : List Bool). NoneIsOpen c.as_slice.result.now s (length c.as_slice.result.now)) c.as_slice-in-loop-nearest.ensures.value
    none))
