use Rattle.std.proofs.Common.{refl, sym, ◌∙◌}
use Rattle.std.proofs.lemmas.Result.{err_from_is_err_and}
use Rattle.update_commands.proofs.WholeStarting.{begins, joined_links, joined_nodes, new_joined, new_ready, old_joined, old_ready, old_within, sides_at}
use Rattle.update_commands.proofs.UpdateEnds.{halted_at_input, halted_at_intent, halted_at_new, halted_at_old, halted_at_pieces, halted_at_start, update_done, update_refused, without_list}
use Rattle.update_commands.proofs.update_command.update.Goals as goal

pub returns-in_err-old : goal.returns-in_err-old
returns-in_err-old g c =
    let p = err_from_is_err_and c.from_residual.result c.from_residual.ensures.1 in
    rw (p.1, p.2) (halted_at_old c.args.words.now.old.now c.args.words.now.new.now c.args.words.now.intent.now
    c.args.words.now.events.items _ _
    (g.S.Source.seen c.args.input.now) (g.O.Sink.seen c.args.out.now) (g.E.Sink.seen c.args.err.now)
    c.in_err-old.field-0.0 c.in_err-old.ensures.judged)

pub returns-in_err-new : goal.returns-in_err-new
returns-in_err-new g c =
    let p = err_from_is_err_and c.from_residual-in_err-new.result c.from_residual-in_err-new.ensures.1 in
    rw (p.1, p.2) (halted_at_new c.args.words.now.old.now c.args.words.now.new.now c.args.words.now.intent.now
    c.args.words.now.events.items _ _ _
    (g.S.Source.seen c.args.input.now) (g.O.Sink.seen c.args.out.now) (g.E.Sink.seen c.args.err.now)
    c.in_ok-old.old c.in_ok-old.ensures.judged c.in_err-new.field-0.0 c.in_err-new.ensures.judged)

pub returns-in_err-both : goal.returns-in_err-both
returns-in_err-both g c =
    let p = err_from_is_err_and c.from_residual-in_err-both.result c.from_residual-in_err-both.ensures.1 in
    rw (p.1, p.2) (halted_at_intent c.args.words.now.old.now c.args.words.now.new.now c.args.words.now.intent.now
    c.args.words.now.events.items _ _ _ _
    (g.S.Source.seen c.args.input.now) (g.S.Source.seen c.args.input.now) (g.O.Sink.seen c.args.out.now) (g.E.Sink.seen c.args.err.now)
    c.in_ok-old.old c.in_ok-old.ensures.judged c.in_ok-new.new c.in_ok-new.ensures.judged
    c.in_err-both.field-0.0 c.in_err-both.ensures.judged)

pub returns-in_err-start : goal.returns-in_err-start
returns-in_err-start g c =
    let p = err_from_is_err_and c.from_residual-in_err-start.result c.from_residual-in_err-start.ensures.1 in
    rw (p.1, p.2) (halted_at_start c.args.words.now.old.now c.args.words.now.new.now c.args.words.now.intent.now
    c.args.words.now.events.items _ _ _ _
    (g.S.Source.seen c.args.input.now) (g.S.Source.seen c.args.input.now) (g.O.Sink.seen c.args.out.now) (g.E.Sink.seen c.args.err.now)
    c.in_ok-old.old c.in_ok-old.ensures.judged c.in_ok-new.new c.in_ok-new.ensures.judged c.in_ok-both.both c.in_ok-both.ensures.judged
    c.in_err-start.field-0.0 c.in_err-start.ensures)

pub returns-in-NoList : goal.returns-in-NoList
returns-in-NoList g c =
    without_list c.args.words.now.old.now c.args.words.now.new.now c.args.words.now.intent.now
    c.args.words.now.events.items _ _ _ _
    (g.S.Source.seen c.args.input.now) (g.S.Source.seen c.args.input.now) (g.O.Sink.seen c.args.out.now) (g.E.Sink.seen c.args.err.now)
    c.in_ok-old.old c.in_ok-old.ensures.judged c.in_ok-new.new c.in_ok-new.ensures.judged c.in_ok-both.both c.in_ok-both.ensures.judged
    c.in-NoList.line _ (rw c.in-NoList.is at c.in_ok-start.ensures) refl refl

pub returns-in_err-packets : goal.returns-in_err-packets
returns-in_err-packets g c =
    let p = err_from_is_err_and c.from_residual-in_err-packets.result c.from_residual-in_err-packets.ensures.1 in
    let old = c.in_ok-old.old in
    let new = c.in_ok-new.new in
    let both = c.in_ok-both.both in
    let sides = c.in-Lists.sides in
    rw (p.1, p.2) (halted_at_input c.args.words.now.old.now c.args.words.now.new.now c.args.words.now.intent.now
    c.args.words.now.events.items _ _ _ _ _ _
    (g.O.Sink.seen c.args.out.now) (g.E.Sink.seen c.args.err.now)
    old c.in_ok-old.ensures.judged new c.in_ok-new.ensures.judged both c.in_ok-both.ensures.judged
    c.in-Lists.plan (sides_at sides.old sides.new)
    (begins old new both c.in-Lists.plan sides (rw c.in-Lists.is at c.in_ok-start.ensures)
    c.keeps_rules.ensures.network c.keeps_rules-2.ensures.network c.in_ok-old.ensures.whole c.in_ok-new.ensures.whole)
    c.in_err-packets.field-0.0 c.in_err-packets.ensures.judged)

pub drive_update-requires-clause-old : goal.drive_update-requires-clause-old
drive_update-requires-clause-old g c = old_ready c.in_ok-old.old c.in_ok-new.new c.in_ok-both.both c.in-Lists.plan c.in-Lists.sides
    (rw c.in-Lists.is at c.in_ok-start.ensures) c.in_ok-both.ensures.keeps.0

pub drive_update-requires-clause-new : goal.drive_update-requires-clause-new
drive_update-requires-clause-new g c = new_ready c.in_ok-old.old c.in_ok-new.new c.in_ok-both.both c.in-Lists.plan c.in-Lists.sides
    (rw c.in-Lists.is at c.in_ok-start.ensures) c.in_ok-both.ensures.keeps.1

pub drive_update-requires-clause-here : goal.drive_update-requires-clause-here
drive_update-requires-clause-here g c = old_within c.in_ok-old.old c.in_ok-new.new c.in_ok-both.both c.in-Lists.plan c.in-Lists.sides
    (rw c.in-Lists.is at c.in_ok-start.ensures) c.in_ok-both.ensures.keeps.0

pub drive_update-requires-clause-within_old : goal.drive_update-requires-clause-within_old
drive_update-requires-clause-within_old g c = old_joined c.in_ok-old.old c.in_ok-new.new c.in_ok-both.both c.in-Lists.plan c.in-Lists.sides
    (rw c.in-Lists.is at c.in_ok-start.ensures) c.in_ok-both.ensures.keeps.0

pub drive_update-requires-clause-within_new : goal.drive_update-requires-clause-within_new
drive_update-requires-clause-within_new g c = new_joined c.in_ok-old.old c.in_ok-new.new c.in_ok-both.both c.in-Lists.plan c.in-Lists.sides
    (rw c.in-Lists.is at c.in_ok-start.ensures) c.in_ok-both.ensures.keeps.1

pub drive_update-requires-clause-nodes : goal.drive_update-requires-clause-nodes
drive_update-requires-clause-nodes g c = joined_nodes c.in_ok-old.old c.in_ok-new.new c.in_ok-both.both c.in-Lists.plan c.in-Lists.sides
    (rw c.in-Lists.is at c.in_ok-start.ensures)

pub drive_update-requires-clause-links : goal.drive_update-requires-clause-links
drive_update-requires-clause-links g c = joined_links c.in_ok-old.old c.in_ok-new.new c.in_ok-both.both c.in-Lists.plan c.in-Lists.sides
    (rw c.in-Lists.is at c.in_ok-start.ensures)

pub returns-in_err-refusal : goal.returns-in_err-refusal
returns-in_err-refusal g c =
    let p = err_from_is_err_and c.from_residual-in_err-refusal.result c.from_residual-in_err-refusal.ensures.1 in
    let old = c.in_ok-old.old in
    let new = c.in_ok-new.new in
    let both = c.in_ok-both.both in
    let sides = c.in-Lists.sides in
    rw (p.1, p.2) (halted_at_pieces c.args.words.now.old.now c.args.words.now.new.now c.args.words.now.intent.now
    c.args.words.now.events.items _ _ _ _ _ _
    (g.O.Sink.seen c.args.out.now) (g.E.Sink.seen c.args.err.now)
    old c.in_ok-old.ensures.judged new c.in_ok-new.ensures.judged both c.in_ok-both.ensures.judged
    c.in-Lists.plan (sides_at sides.old sides.new)
    (begins old new both c.in-Lists.plan sides (rw c.in-Lists.is at c.in_ok-start.ensures)
    c.keeps_rules.ensures.network c.keeps_rules-2.ensures.network c.in_ok-old.ensures.whole c.in_ok-new.ensures.whole)
    c.in_ok-packets.packets c.in_ok-packets.ensures.judged
    (g.O.Sink.seen c.drive_update.new.out) (g.E.Sink.seen c.drive_update.new.err)
    c.in_err-refusal.field-0.0 (rw c.as_slice.ensures.value at c.in_err-refusal.ensures.wrote))

pub returns-in-Some : goal.returns-in-Some
returns-in-Some g c =
    let old = c.in_ok-old.old in
    let new = c.in_ok-new.new in
    let both = c.in_ok-both.both in
    let sides = c.in-Lists.sides in
    update_refused c.args.words.now.old.now c.args.words.now.new.now c.args.words.now.intent.now
    c.args.words.now.events.items _ _ _ _ _ _
    (g.O.Sink.seen c.args.out.now) (g.E.Sink.seen c.args.err.now)
    old c.in_ok-old.ensures.judged new c.in_ok-new.ensures.judged both c.in_ok-both.ensures.judged
    c.in-Lists.plan (sides_at sides.old sides.new)
    (begins old new both c.in-Lists.plan sides (rw c.in-Lists.is at c.in_ok-start.ensures)
    c.keeps_rules.ensures.network c.keeps_rules-2.ensures.network c.in_ok-old.ensures.whole c.in_ok-new.ensures.whole)
    c.in_ok-packets.packets c.in_ok-packets.ensures.judged
    (g.O.Sink.seen c.drive_update.new.out) (g.E.Sink.seen c.drive_update.new.err)
    c.in-Some.refusal (sym c.in-Some.is ∙ c.in_ok-refusal.ensures.fault) (rw c.as_slice.ensures.value at c.in_ok-refusal.ensures.wrote)

pub returns : goal.returns
returns g c =
    let old = c.in_ok-old.old in
    let new = c.in_ok-new.new in
    let both = c.in_ok-both.both in
    let sides = c.in-Lists.sides in
    update_done c.args.words.now.old.now c.args.words.now.new.now c.args.words.now.intent.now
    c.args.words.now.events.items _ _ _ _ _ _
    (g.O.Sink.seen c.args.out.now) (g.E.Sink.seen c.args.err.now)
    old c.in_ok-old.ensures.judged new c.in_ok-new.ensures.judged both c.in_ok-both.ensures.judged
    c.in-Lists.plan (sides_at sides.old sides.new)
    (begins old new both c.in-Lists.plan sides (rw c.in-Lists.is at c.in_ok-start.ensures)
    c.keeps_rules.ensures.network c.keeps_rules-2.ensures.network c.in_ok-old.ensures.whole c.in_ok-new.ensures.whole)
    c.in_ok-packets.packets c.in_ok-packets.ensures.judged
    (g.O.Sink.seen c.drive_update.new.out) (g.E.Sink.seen c.drive_update.new.err)
    _ (sym c.in-None.is ∙ c.in_ok-refusal.ensures.fault) refl refl (rw c.as_slice.ensures.value at c.in_ok-refusal.ensures.wrote)
