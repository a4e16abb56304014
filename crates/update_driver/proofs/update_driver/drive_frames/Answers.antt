use Rattle.std.proofs.Common.{◌≡◌, ◌≤◌, List, [], ◌∷◌, ◌++◌, length, map, ◌∙◌, subst}
use Rattle.std.specs.List.{flat_map}
use Rattle.std.proofs.lemmas.Result.{err_from_is_err_and}
use Rattle.srx_edge.specs.CallSteps.{Whole}
use Rattle.pcap_io.specs.declared.frame.Body.{Body}
use Rattle.pcap_io.specs.declared.frame.Frame.{Frame}
use Rattle.pcap_io.specs.declared.numbers.TheConstants.{MAX_FRAMES}
use Rattle.pcap_io.specs.Capture.{written_head_bytes}
use Rattle.net_model.specs.Network.{Network}
use Rattle.command_output.specs.declared.halt.Failure.TheVariants as failures
use Rattle.command_output.specs.CommandAnswers.{ending_of_failure}
use Rattle.command_output.specs.GatheredTerms.{pooled}
use Rattle.command_output.specs.OutputPieces.{ForErr, ForOut, Piece}
use Rattle.command_output.proofs.PublicLaws.{cut_short, cut_then, goes_both, goes_kept, none_went, poured_last, unpoured_last}
use Rattle.run_commands.specs.Admission.{Admission}
use Rattle.update_driver.specs.declared.seat.Seat.{Seat}
use Rattle.update_driver.specs.Arriving.{line_of_early, seat_of}
use Rattle.update_driver.specs.Events.{events_and_rest, pieces_of, starting}
use Rattle.update_driver.specs.Moving.{Moving, Sides, happening, sides_by}
use Rattle.update_driver.proofs.Driving.{driven_going, driven_went, starts_at}
use Rattle.update_driver.proofs.update_driver.drive_frames.Goals as goal

pub put_moves-requires-clause-going : goal.put_moves-requires-clause-going
put_moves-requires-clause-going g c =
    let net : Network = c.args.change.now.net.now in
    let old : Body → Admission = g.W.Enters.entry c.args.change.now.sides.now.old in
    let sides : Sides = sides_by old (g.W.Enters.entry c.args.change.now.sides.now.new) in
    let frames : List Frame = (g.N.Frames.seen c.args.first.now).frames in
    let all : c.in_ok-seats.seats.items ≡ map (seat_of old) frames = rw c.requires.same at c.in_ok-seats.ensures.seats in
    let is = starts_at sides c.args.plan frames c.start-moving.result c.in_ok-seats.seats.items c.start-moving.ensures.moving all in
    driven_going sides c.args.plan frames c.args.change.now.events.now net c.start-moving.result c.count_edits-count.result
    c.start-moving.ensures.net is
    (c.start-moving.ensures.choices ∙ (c.as_slice.ensures.value ∙ c.in_ok-choices.ensures)) c.requires.nodes c.requires.links
    c.requires.within_old c.requires.within_new (subst (λ (xs : List Seat). length xs ≤ MAX_FRAMES) all c.in_ok-seats.ensures.few)

pub returns-in_err-pool-clause-wrote : goal.returns-in_err-pool-clause-wrote
returns-in_err-pool-clause-wrote g c =
    let p = err_from_is_err_and c.from_residual.result c.from_residual.ensures.1 in
    rw (p.1, p.2) (none_went _ _)

pub returns-in_err-put_first-clause-wrote : goal.returns-in_err-put_first-clause-wrote
returns-in_err-put_first-clause-wrote g c =
    let p = err_from_is_err_and c.from_residual-in_err-put_first.result c.from_residual-in_err-put_first.ensures.1 in
    let net : Network = c.args.change.now.net.now in
    let old : Body → Admission = g.W.Enters.entry c.args.change.now.sides.now.old in
    let sides : Sides = sides_by old (g.W.Enters.entry c.args.change.now.sides.now.new) in
    let frames : List Frame = (g.N.Frames.seen c.args.first.now).frames in
    let first : List Piece = ForOut written_head_bytes ∷ ForErr (flat_map (line_of_early net old) frames) ∷ [] in
    let start : Moving = starting sides c.args.plan frames in
    let more : List Piece = pieces_of net (happening sides start (events_and_rest start frames c.args.change.now.events.now)) in
    let begun = pooled c.in_ok-pool.pool (g.O.Sink.seen c.args.out.now) (g.E.Sink.seen c.args.err.now) in
    rw (p.1, p.2) (cut_short c.in_err-put_first.field-0.0 first more begun _ c.in_ok-pool.ensures c.in_err-put_first.ensures)

pub returns-in_err-seats-clause-wrote : goal.returns-in_err-seats-clause-wrote
returns-in_err-seats-clause-wrote g c =
    let p = err_from_is_err_and c.from_residual-in_err-seats.result c.from_residual-in_err-seats.ensures.1 in
    let net : Network = c.args.change.now.net.now in
    let old : Body → Admission = g.W.Enters.entry c.args.change.now.sides.now.old in
    let sides : Sides = sides_by old (g.W.Enters.entry c.args.change.now.sides.now.new) in
    let frames : List Frame = (g.N.Frames.seen c.args.first.now).frames in
    let first : List Piece = ForOut written_head_bytes ∷ ForErr (flat_map (line_of_early net old) frames) ∷ [] in
    let start : Moving = starting sides c.args.plan frames in
    let more : List Piece = pieces_of net (happening sides start (events_and_rest start frames c.args.change.now.events.now)) in
    let begun = pooled c.in_ok-pool.pool (g.O.Sink.seen c.args.out.now) (g.E.Sink.seen c.args.err.now) in
    let mid = pooled c.put_first.new.pool (g.O.Sink.seen c.put_first.new.out) (g.E.Sink.seen c.put_first.new.err) in
    rw (p.1, p.2) (cut_then failures.NoMemory first more begun mid mid c.in_ok-pool.ensures c.in_ok-put_first.ensures (goes_kept more mid))

pub returns-in_err-choices-clause-wrote : goal.returns-in_err-choices-clause-wrote
returns-in_err-choices-clause-wrote g c =
    let p = err_from_is_err_and c.from_residual-in_err-choices.result c.from_residual-in_err-choices.ensures.1 in
    let net : Network = c.args.change.now.net.now in
    let old : Body → Admission = g.W.Enters.entry c.args.change.now.sides.now.old in
    let sides : Sides = sides_by old (g.W.Enters.entry c.args.change.now.sides.now.new) in
    let frames : List Frame = (g.N.Frames.seen c.args.first.now).frames in
    let first : List Piece = ForOut written_head_bytes ∷ ForErr (flat_map (line_of_early net old) frames) ∷ [] in
    let start : Moving = starting sides c.args.plan frames in
    let more : List Piece = pieces_of net (happening sides start (events_and_rest start frames c.args.change.now.events.now)) in
    let begun = pooled c.in_ok-pool.pool (g.O.Sink.seen c.args.out.now) (g.E.Sink.seen c.args.err.now) in
    let mid = pooled c.put_first.new.pool (g.O.Sink.seen c.put_first.new.out) (g.E.Sink.seen c.put_first.new.err) in
    rw (p.1, p.2) (cut_then failures.NoMemory first more begun mid mid c.in_ok-pool.ensures c.in_ok-put_first.ensures (goes_kept more mid))

pub returns-in_err-put_moves-clause-wrote : goal.returns-in_err-put_moves-clause-wrote
returns-in_err-put_moves-clause-wrote g c =
    let p = err_from_is_err_and c.from_residual-in_err-put_moves.result c.from_residual-in_err-put_moves.ensures.1 in
    let net : Network = c.args.change.now.net.now in
    let old : Body → Admission = g.W.Enters.entry c.args.change.now.sides.now.old in
    let sides : Sides = sides_by old (g.W.Enters.entry c.args.change.now.sides.now.new) in
    let frames : List Frame = (g.N.Frames.seen c.args.first.now).frames in
    let first : List Piece = ForOut written_head_bytes ∷ ForErr (flat_map (line_of_early net old) frames) ∷ [] in
    let start : Moving = starting sides c.args.plan frames in
    let more : List Piece = pieces_of net (happening sides start (events_and_rest start frames c.args.change.now.events.now)) in
    let begun = pooled c.in_ok-pool.pool (g.O.Sink.seen c.args.out.now) (g.E.Sink.seen c.args.err.now) in
    let mid = pooled c.put_first.new.pool (g.O.Sink.seen c.put_first.new.out) (g.E.Sink.seen c.put_first.new.err) in
    let last = pooled c.put_moves.new.pool (g.O.Sink.seen c.put_moves.new.out) (g.E.Sink.seen c.put_moves.new.err) in
    let is = starts_at sides c.args.plan frames c.start-moving.result c.in_ok-seats.seats.items c.start-moving.ensures.moving
    (rw c.requires.same at c.in_ok-seats.ensures.seats) in
    rw (p.1, p.2) (cut_then c.in_err-put_moves.field-0.0 first more begun mid last c.in_ok-pool.ensures c.in_ok-put_first.ensures
    (driven_went sides c.args.plan frames c.args.change.now.events.now net c.start-moving.result c.count_edits-count.result
    c.start-moving.ensures.net is c.count_edits-count.ensures (ending_of_failure c.in_err-put_moves.field-0.0) mid last
    c.in_err-put_moves.ensures))

pub returns-in_err-pour-clause-wrote : goal.returns-in_err-pour-clause-wrote
returns-in_err-pour-clause-wrote g c =
    let p = err_from_is_err_and c.from_residual-in_err-pour.result c.from_residual-in_err-pour.ensures.1 in
    let net : Network = c.args.change.now.net.now in
    let old : Body → Admission = g.W.Enters.entry c.args.change.now.sides.now.old in
    let sides : Sides = sides_by old (g.W.Enters.entry c.args.change.now.sides.now.new) in
    let frames : List Frame = (g.N.Frames.seen c.args.first.now).frames in
    let first : List Piece = ForOut written_head_bytes ∷ ForErr (flat_map (line_of_early net old) frames) ∷ [] in
    let start : Moving = starting sides c.args.plan frames in
    let more : List Piece = pieces_of net (happening sides start (events_and_rest start frames c.args.change.now.events.now)) in
    let begun = pooled c.in_ok-pool.pool (g.O.Sink.seen c.args.out.now) (g.E.Sink.seen c.args.err.now) in
    let mid = pooled c.put_first.new.pool (g.O.Sink.seen c.put_first.new.out) (g.E.Sink.seen c.put_first.new.err) in
    let last = pooled c.put_moves.new.pool (g.O.Sink.seen c.put_moves.new.out) (g.E.Sink.seen c.put_moves.new.err) in
    let is = starts_at sides c.args.plan frames c.start-moving.result c.in_ok-seats.seats.items c.start-moving.ensures.moving
    (rw c.requires.same at c.in_ok-seats.ensures.seats) in
    rw (p.1, p.2) (unpoured_last c.in_err-pour.field-0.0 (first ++ more) begun last _ c.in_ok-pool.ensures
    (goes_both first more begun mid last c.in_ok-put_first.ensures
    (driven_went sides c.args.plan frames c.args.change.now.events.now net c.start-moving.result c.count_edits-count.result
    c.start-moving.ensures.net is c.count_edits-count.ensures Whole mid last c.in_ok-put_moves.ensures))
    c.in_err-pour.ensures.wrote)

pub returns-clause-wrote : goal.returns-clause-wrote
returns-clause-wrote g c =
    let net : Network = c.args.change.now.net.now in
    let old : Body → Admission = g.W.Enters.entry c.args.change.now.sides.now.old in
    let sides : Sides = sides_by old (g.W.Enters.entry c.args.change.now.sides.now.new) in
    let frames : List Frame = (g.N.Frames.seen c.args.first.now).frames in
    let first : List Piece = ForOut written_head_bytes ∷ ForErr (flat_map (line_of_early net old) frames) ∷ [] in
    let start : Moving = starting sides c.args.plan frames in
    let more : List Piece = pieces_of net (happening sides start (events_and_rest start frames c.args.change.now.events.now)) in
    let begun = pooled c.in_ok-pool.pool (g.O.Sink.seen c.args.out.now) (g.E.Sink.seen c.args.err.now) in
    let mid = pooled c.put_first.new.pool (g.O.Sink.seen c.put_first.new.out) (g.E.Sink.seen c.put_first.new.err) in
    let last = pooled c.put_moves.new.pool (g.O.Sink.seen c.put_moves.new.out) (g.E.Sink.seen c.put_moves.new.err) in
    let is = starts_at sides c.args.plan frames c.start-moving.result c.in_ok-seats.seats.items c.start-moving.ensures.moving
    (rw c.requires.same at c.in_ok-seats.ensures.seats) in
    poured_last Whole (first ++ more) begun last _ c.in_ok-pool.ensures
    (goes_both first more begun mid last c.in_ok-put_first.ensures
    (driven_went sides c.args.plan frames c.args.change.now.events.now net c.start-moving.result c.count_edits-count.result
    c.start-moving.ensures.net is c.count_edits-count.ensures Whole mid last c.in_ok-put_moves.ensures))
    c.in_ok-pour.ensures.wrote
