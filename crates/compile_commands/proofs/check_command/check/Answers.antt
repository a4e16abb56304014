use Rattle.std.proofs.Common.{refl}
use Rattle.std.proofs.lemmas.Result.{err_from_is_err_and}
use Rattle.compile_commands.proofs.CheckEnds.{check_halted_at_file, check_halted_at_intent, check_halted_at_legs, check_halted_at_cert, check_halted_at_judgement, check_halted_at_out, check_done}
use Rattle.compile_commands.proofs.check_command.check.Goals as goal

pub returns-in_err-net : goal.returns-in_err-net
returns-in_err-net g c =
    let p = err_from_is_err_and c.from_residual.result c.from_residual.ensures.1 in
    rw (p.1, p.2) (check_halted_at_file c.args.file.now c.args.intent.now c.args.cert.now _ _ (g.O.Sink.seen c.args.out.now)
    c.in_err-net.field-0.0 c.in_err-net.ensures.judged)

pub returns-in_err-intent : goal.returns-in_err-intent
returns-in_err-intent g c =
    let p = err_from_is_err_and c.from_residual-in_err-intent.result c.from_residual-in_err-intent.ensures.1 in
    rw (p.1, p.2) (check_halted_at_intent c.args.file.now c.args.intent.now c.args.cert.now _ _ _
    (g.O.Sink.seen c.args.out.now) (g.O.Sink.seen c.args.out.now)
    c.in_ok-net.net c.in_ok-net.ensures.judged c.in_err-intent.field-0.0 c.in_err-intent.ensures.judged)

pub returns-in_err-legs : goal.returns-in_err-legs
returns-in_err-legs g c =
    let p = err_from_is_err_and c.from_residual-in_err-legs.result c.from_residual-in_err-legs.ensures.1 in
    rw (p.1, p.2) (check_halted_at_legs c.args.file.now c.args.intent.now c.args.cert.now _ _ _ (g.F.Files.seen c.args.files.now)
    (g.O.Sink.seen c.args.out.now) (g.O.Sink.seen c.args.out.now)
    c.in_ok-net.net c.in_ok-net.ensures.judged c.in_ok-intent.intent c.in_ok-intent.ensures.judged
    c.in_err-legs.field-0.0 c.in_err-legs.ensures.legs)

pub returns-in_err-cert : goal.returns-in_err-cert
returns-in_err-cert g c =
    let p = err_from_is_err_and c.from_residual-in_err-cert.result c.from_residual-in_err-cert.ensures.1 in
    rw (p.1, p.2) (check_halted_at_cert c.args.file.now c.args.intent.now c.args.cert.now _ _ _ _
    (g.O.Sink.seen c.args.out.now) (g.O.Sink.seen c.args.out.now)
    c.in_ok-net.net c.in_ok-net.ensures.judged c.in_ok-intent.intent c.in_ok-intent.ensures.judged
    c.in_ok-legs.ensures.legs.1 c.in_ok-legs.legs c.in_err-cert.field-0.0 c.in_ok-legs.ensures.legs.0 c.in_err-cert.ensures.judged)

pub returns-in_err-judgement : goal.returns-in_err-judgement
returns-in_err-judgement g c =
    let p = err_from_is_err_and c.from_residual-in_err-judgement.result c.from_residual-in_err-judgement.ensures.1 in
    rw (p.1, p.2) (check_halted_at_judgement c.args.file.now c.args.intent.now c.args.cert.now _ _ _ _
    (g.O.Sink.seen c.args.out.now) (g.O.Sink.seen c.args.out.now)
    c.in_ok-net.net c.in_ok-net.ensures.judged c.in_ok-intent.intent c.in_ok-intent.ensures.judged
    c.in_ok-legs.ensures.legs.1 c.in_ok-cert.cert (rw c.in_ok-legs.ensures.legs.0 at c.in_ok-cert.ensures.judged))

pub returns-in_err-write_all : goal.returns-in_err-write_all
returns-in_err-write_all g c =
    let p = err_from_is_err_and c.from_residual-in_err-write_all.result c.from_residual-in_err-write_all.ensures.1 in
    rw (p.1, p.2) (check_halted_at_out c.args.file.now c.args.intent.now c.args.cert.now _ _ _ _ _ _
    c.in_ok-net.net c.in_ok-net.ensures.judged c.in_ok-intent.intent c.in_ok-intent.ensures.judged
    c.in_ok-legs.ensures.legs.1 c.in_ok-cert.cert (rw c.in_ok-legs.ensures.legs.0 at c.in_ok-cert.ensures.judged)
    c.in_ok-judgement.judgement c.in_ok-judgement.ensures c.in_err-write_all.field-0.0
    (rw c.as_bytes.ensures at c.in_err-write_all.ensures.wrote))

pub returns : goal.returns
returns g c =
    check_done c.args.file.now c.args.intent.now c.args.cert.now _ _ _ _ _ _
    c.in_ok-net.net c.in_ok-net.ensures.judged c.in_ok-intent.intent c.in_ok-intent.ensures.judged
    c.in_ok-legs.ensures.legs.1 c.in_ok-cert.cert (rw c.in_ok-legs.ensures.legs.0 at c.in_ok-cert.ensures.judged)
    c.in_ok-judgement.judgement c.in_ok-judgement.ensures _ refl refl
    (rw c.as_bytes.ensures at c.in_ok-write_all.ensures.wrote)
