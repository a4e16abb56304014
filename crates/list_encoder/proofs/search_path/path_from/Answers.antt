use Rattle.std.proofs.Common.{Option, subst, get_or, None}
use Rattle.list_encoder.specs.declared.picks.Pick.{Pick}
use Rattle.list_encoder.specs.Picks.{PicksFirst}
use Rattle.list_encoder.proofs.SearchCelling.{cell_read}
use Rattle.list_encoder.proofs.SearchWalking.{walked_never, walked_ended, walked_pushed, walk_falls, place_within}
use Rattle.list_encoder.proofs.search_path.path_from.Goals as goal

pub unreachable-requires : goal.unreachable-requires
unreachable-requires g c =
    walked_never (g.L.Legs.seen c.args.legs.now) c.steps.ensures.laws c.args.cells.now c.requires.cells c.args.table.now c.requires.least
    c.loop-pick.costed_state c.loop-pick.invariant.is_costed_state
    (subst (λ (o : Option Pick). PicksFirst (g.L.Legs.seen c.args.legs.now) c.args.cells.now c.args.table.now c.loop-pick.costed_state o)
    c.in_default.is
    c.first_tight.ensures)

pub returns-in-None : goal.returns-in-None
returns-in-None g c =
    walked_ended (g.L.Legs.seen c.args.legs.now) c.steps.ensures.laws c.args.cells.now c.requires.cells c.args.table.now c.requires.least
    c.loop-pick.costed_state c.loop-pick.invariant.is_costed_state
    c.in-Some.pick c.in-Some.ensures c.args.start c.loop-pick.steps.items c.push.new.self.items c.in_ok-push.ensures.items
    c.loop-pick.invariant
    c.in-None.is c.requires.cell c.requires.room

pub loop-pick-smaller : goal.loop-pick-smaller
loop-pick-smaller g c =
    walk_falls (g.L.Legs.seen c.args.legs.now) c.steps.ensures.laws c.args.cells.now c.requires.cells c.args.table.now c.requires.least
    c.loop-pick.costed_state c.loop-pick.invariant.is_costed_state
    c.in-Some.pick c.in-Some.ensures

pub loop-pick-preserved : goal.loop-pick-preserved
loop-pick-preserved g c =
    let within = place_within (g.L.Legs.seen c.args.legs.now) c.steps.ensures.laws c.args.cells.now c.requires.cells c.args.table.now
    c.requires.least c.loop-pick.costed_state c.loop-pick.invariant.is_costed_state
    c.in-Some.pick c.in-Some.ensures c.in-Some-to.place c.in-Some-to.is in
    walked_pushed (g.L.Legs.seen c.args.legs.now) c.steps.ensures.laws c.args.cells.now c.requires.cells c.args.table.now c.requires.least
    c.loop-pick.costed_state c.loop-pick.invariant.is_costed_state
    c.in-Some.pick c.in-Some.ensures c.args.start c.loop-pick.steps.items c.push.new.self.items c.in-Some-to.place
    (get_or c.args.cells.now c.in-Some-to.place (record { position = 0; via = None })) c.in_ok-push.ensures.items c.loop-pick.invariant
    c.in-Some-to.is
    (cell_read c.args.cells.now c.in-Some-to.place within)
