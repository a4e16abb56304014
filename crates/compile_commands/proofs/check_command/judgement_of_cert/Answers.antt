use Rattle.compile_commands.proofs.CommandChecking.{judges_as}
use Rattle.compile_commands.proofs.check_command.judgement_of_cert.Goals as goal

pub returns : goal.returns
returns c =
    judges_as c.args.net.now c.args.intent.now c.args.cert.now c.check-verdict.result
    (record { line = c.in_ok-line_of_verdict.field-0; status = c.status_of_verdict.result })
    (rw (c.requires.net, c.requires.intent) at c.check-verdict.ensures.verdict)
    (rw (c.requires.net, c.requires.intent) at c.check-verdict.ensures.says)
    (rw (c.requires.net, c.requires.intent) at c.check-verdict.ensures.handing) c.in_ok-line_of_verdict.ensures
    c.status_of_verdict.ensures
