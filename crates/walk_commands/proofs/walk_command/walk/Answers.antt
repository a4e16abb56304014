use Rattle.std.proofs.Common.{refl, sym, ◌∙◌}
use Rattle.std.proofs.lemmas.Result.{err_from_is_err_and}
use Rattle.walk_commands.proofs.WalkLeaves.{walk_halted_at_file, walk_halted_at_intent, walk_halted_at_start, walk_without_list, walk_halted_at_input, walk_halted_at_pieces, walk_done, walk_refused}
use Rattle.walk_commands.proofs.WalkStarts.{headend_ready, headend_within}
use Rattle.walk_commands.proofs.walk_command.walk.Goals as goal

pub returns-in_err-net : goal.returns-in_err-net
returns-in_err-net g c =
    let p = err_from_is_err_and c.from_residual.result c.from_residual.ensures.1 in
    rw (p.1, p.2) (walk_halted_at_file c.args.words.now.file.now c.args.words.now.intent.now c.args.words.now.choices.items
    c.args.words.now.schedule.items _ _ (g.S.Source.seen c.args.input.now)
    (g.O.Sink.seen c.args.out.now) (g.E.Sink.seen c.args.err.now) c.in_err-net.field-0.0 c.in_err-net.ensures.judged)

pub returns-in_err-intent : goal.returns-in_err-intent
returns-in_err-intent g c =
    let p = err_from_is_err_and c.from_residual-in_err-intent.result c.from_residual-in_err-intent.ensures.1 in
    rw (p.1, p.2) (walk_halted_at_intent c.args.words.now.file.now c.args.words.now.intent.now c.args.words.now.choices.items
    c.args.words.now.schedule.items _ _ _ (g.S.Source.seen c.args.input.now)
    (g.S.Source.seen c.args.input.now) (g.O.Sink.seen c.args.out.now) (g.E.Sink.seen c.args.err.now)
    c.in_ok-net.net c.in_ok-net.ensures.judged c.in_err-intent.field-0.0 c.in_err-intent.ensures.judged)

pub returns-in_err-start : goal.returns-in_err-start
returns-in_err-start g c =
    let p = err_from_is_err_and c.from_residual-in_err-start.result c.from_residual-in_err-start.ensures.1 in
    rw (p.1, p.2) (walk_halted_at_start c.args.words.now.file.now c.args.words.now.intent.now c.args.words.now.choices.items
    c.args.words.now.schedule.items _ _ _ (g.S.Source.seen c.args.input.now)
    (g.S.Source.seen c.args.input.now) (g.O.Sink.seen c.args.out.now) (g.E.Sink.seen c.args.err.now)
    c.in_ok-net.net c.in_ok-net.ensures.judged c.in_ok-intent.intent c.in_ok-intent.ensures.judged
    c.in_err-start.field-0.0 c.in_err-start.ensures)

pub returns-in-NoList : goal.returns-in-NoList
returns-in-NoList g c =
    walk_without_list c.args.words.now.file.now c.args.words.now.intent.now c.args.words.now.choices.items
    c.args.words.now.schedule.items _ _ _ (g.S.Source.seen c.args.input.now)
    (g.S.Source.seen c.args.input.now) (g.O.Sink.seen c.args.out.now) (g.E.Sink.seen c.args.err.now)
    c.in_ok-net.net c.in_ok-net.ensures.judged c.in_ok-intent.intent c.in_ok-intent.ensures.judged
    c.in-NoList.line _ (rw c.in-NoList.is at c.in_ok-start.ensures) refl refl

pub returns-in_err-packets : goal.returns-in_err-packets
returns-in_err-packets g c =
    let p = err_from_is_err_and c.from_residual-in_err-packets.result c.from_residual-in_err-packets.ensures.1 in
    rw (p.1, p.2) (walk_halted_at_input c.args.words.now.file.now c.args.words.now.intent.now c.args.words.now.choices.items
    c.args.words.now.schedule.items _ _ _ _ _
    (g.O.Sink.seen c.args.out.now) (g.E.Sink.seen c.args.err.now)
    c.in_ok-net.net c.in_ok-net.ensures.judged c.in_ok-intent.intent c.in_ok-intent.ensures.judged
    c.in-List.headend (rw c.in-List.is at c.in_ok-start.ensures) c.keeps_rules.ensures.network c.hop_limit_fits.ensures
    c.requires
    c.in_err-packets.field-0.0 c.in_err-packets.ensures.judged)

pub drive-requires-clause-ready : goal.drive-requires-clause-ready
drive-requires-clause-ready g c =
    let begins = rw c.in-List.is at c.in_ok-start.ensures in
    headend_ready c.in_ok-net.net c.in_ok-intent.intent begins.0 c.in-List.headend c.in_ok-intent.ensures.keeps begins.1 begins.3

pub drive-requires-clause-within : goal.drive-requires-clause-within
drive-requires-clause-within g c =
    let begins = rw c.in-List.is at c.in_ok-start.ensures in
    headend_within c.in_ok-net.net c.in_ok-intent.intent begins.0 c.in-List.headend c.in_ok-intent.ensures.keeps begins.3

pub returns-in_err-refusal : goal.returns-in_err-refusal
returns-in_err-refusal g c =
    let p = err_from_is_err_and c.from_residual-in_err-refusal.result c.from_residual-in_err-refusal.ensures.1 in
    rw (p.1, p.2) (walk_halted_at_pieces c.args.words.now.file.now c.args.words.now.intent.now c.args.words.now.choices.items
    c.args.words.now.schedule.items _ _ _ _ _
    (g.O.Sink.seen c.args.out.now) (g.E.Sink.seen c.args.err.now)
    c.in_ok-net.net c.in_ok-net.ensures.judged c.in_ok-intent.intent c.in_ok-intent.ensures.judged
    c.in-List.headend (rw c.in-List.is at c.in_ok-start.ensures) c.keeps_rules.ensures.network c.hop_limit_fits.ensures
    c.requires
    c.in_ok-packets.packets c.in_ok-packets.ensures.judged
    (g.O.Sink.seen c.drive.new.out) (g.E.Sink.seen c.drive.new.err)
    c.in_err-refusal.field-0.0 (rw (c.as_slice-choices.ensures.value, c.as_slice-schedule.ensures.value) at c.in_err-refusal.ensures.wrote))

pub returns-in-Some : goal.returns-in-Some
returns-in-Some g c = walk_refused c.args.words.now.file.now c.args.words.now.intent.now c.args.words.now.choices.items
    c.args.words.now.schedule.items _ _ _ _ _
    (g.O.Sink.seen c.args.out.now) (g.E.Sink.seen c.args.err.now)
    c.in_ok-net.net c.in_ok-net.ensures.judged c.in_ok-intent.intent c.in_ok-intent.ensures.judged
    c.in-List.headend (rw c.in-List.is at c.in_ok-start.ensures) c.keeps_rules.ensures.network c.hop_limit_fits.ensures
    c.requires
    c.in_ok-packets.packets c.in_ok-packets.ensures.judged
    (g.O.Sink.seen c.drive.new.out) (g.E.Sink.seen c.drive.new.err)
    c.in-Some.refusal (sym c.in-Some.is ∙ c.in_ok-refusal.ensures.fault)
    (rw (c.as_slice-choices.ensures.value, c.as_slice-schedule.ensures.value) at c.in_ok-refusal.ensures.wrote)

pub returns : goal.returns
returns g c = walk_done c.args.words.now.file.now c.args.words.now.intent.now c.args.words.now.choices.items
    c.args.words.now.schedule.items _ _ _ _ _
    (g.O.Sink.seen c.args.out.now) (g.E.Sink.seen c.args.err.now)
    c.in_ok-net.net c.in_ok-net.ensures.judged c.in_ok-intent.intent c.in_ok-intent.ensures.judged
    c.in-List.headend (rw c.in-List.is at c.in_ok-start.ensures) c.keeps_rules.ensures.network c.hop_limit_fits.ensures
    c.requires
    c.in_ok-packets.packets c.in_ok-packets.ensures.judged
    (g.O.Sink.seen c.drive.new.out) (g.E.Sink.seen c.drive.new.err)
    _ (sym c.in-None.is ∙ c.in_ok-refusal.ensures.fault) refl refl
    (rw (c.as_slice-choices.ensures.value, c.as_slice-schedule.ensures.value) at c.in_ok-refusal.ensures.wrote)
