use Rattle.std.proofs.lemmas.Result.{err_from_is_err_and}
use Rattle.command_output.specs.declared.conclusion.Text.TheVariants.{Made}
use Rattle.generate_commands.proofs.Generating.{summed_lines, summed_flat, summed_none, summed_long, summed_over}
use Rattle.generate_commands.proofs.gen_command.summary_for.Goals as goal

pub returns-in_err-lines-in-Ok : goal.returns-in_err-lines-in-Ok
returns-in_err-lines-in-Ok c =
    let p = err_from_is_err_and c.from_residual.result c.from_residual.ensures.1 in
    rw (p.1, p.2) tt

pub returns-in-Ok : goal.returns-in-Ok
returns-in-Ok c =
    summed_lines c.args.net.now c.args.intent.now c.in-Ok.summed (Made c.in_ok-lines-in-Ok.lines) c.in-Ok.ensures
    c.in_ok-lines-in-Ok.ensures

pub returns-in-Err-NotFlat : goal.returns-in-Err-NotFlat
returns-in-Err-NotFlat c =
    summed_flat c.args.net.now c.args.intent.now c.in-Err-NotFlat.why c.refusal_of_not_flat.result
    (rw c.in-Err-NotFlat.field-0-is at c.in-Err-NotFlat.ensures)
    c.refusal_of_not_flat.ensures

pub returns-in-Err-NoList : goal.returns-in-Err-NoList
returns-in-Err-NoList c =
    summed_none c.args.net.now c.args.intent.now c.in-Err-NoList.field-0-0 c.line_of_none.result
    (rw c.in-Err-NoList.field-0-is at c.in-Err-NoList.ensures)
    c.line_of_none.ensures

pub returns-in-Err-TooLong : goal.returns-in-Err-TooLong
returns-in-Err-TooLong c =
    summed_long c.args.net.now c.args.intent.now c.in-Err-TooLong.found c.in_ok-line-in-Err-TooLong.line
    (rw c.in-Err-TooLong.field-0-is at c.in-Err-TooLong.ensures)
    c.in_ok-line-in-Err-TooLong.ensures

pub returns-in-Err-HopLimit : goal.returns-in-Err-HopLimit
returns-in-Err-HopLimit c =
    summed_over c.args.net.now c.args.intent.now c.in-Err-HopLimit.found c.in_ok-line-in-Err-HopLimit.line
    (rw c.in-Err-HopLimit.field-0-is at c.in-Err-HopLimit.ensures)
    c.in_ok-line-in-Err-HopLimit.ensures
