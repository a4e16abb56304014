use Rattle.std.proofs.Common.{refl}
use Rattle.std.proofs.lemmas.Result.{err_from_is_err_and}
use Rattle.srx_edge.specs.FilesRead.{FilesSeen}
use Rattle.srx_edge.specs.Sources.{SourceSeen}
use Rattle.generate_commands.proofs.Generating.{gen_halted, gen_cut, gen_done, gen_without_list}
use Rattle.generate_commands.proofs.gen_command.generate.Goals as goal

pub returns-in_err-text : goal.returns-in_err-text
returns-in_err-text g c =
    let p = err_from_is_err_and c.from_residual.result c.from_residual.ensures.1 in
    rw (p.1, p.2) (λ (files : FilesSeen) (input : SourceSeen). gen_halted c.args.size c.args.made files input c.in_err-text.field-0.0
    (g.O.Sink.seen c.args.out.now) c.in_err-text.ensures)

pub returns-in_err-write_all-in-Report : goal.returns-in_err-write_all-in-Report
returns-in_err-write_all-in-Report g c =
    let p = err_from_is_err_and c.from_residual-in_err-write_all-in-Report.result
    c.from_residual-in_err-write_all-in-Report.ensures.1 in
    rw (p.1, p.2) (λ (files : FilesSeen) (input : SourceSeen). gen_cut c.args.size c.args.made files input c.in-Report.text
    (rw c.in-Report.is at c.in_ok-text.ensures) (g.O.Sink.seen c.args.out.now) (g.O.Sink.seen c.write_all.new.sink)
    c.in_err-write_all-in-Report.field-0.0 (rw c.as_bytes.ensures at c.in_err-write_all-in-Report.ensures.wrote))

pub returns-in_ok-write_all-in-Report : goal.returns-in_ok-write_all-in-Report
returns-in_ok-write_all-in-Report g c =
    λ (files : FilesSeen) (input : SourceSeen). gen_done c.args.size c.args.made files input c.in-Report.text
    (rw c.in-Report.is at c.in_ok-text.ensures) (g.O.Sink.seen c.args.out.now) (g.O.Sink.seen c.write_all.new.sink)
    _ refl refl (rw c.as_bytes.ensures at c.in_ok-write_all-in-Report.ensures.wrote)

pub returns-in-NoList : goal.returns-in-NoList
returns-in-NoList g c =
    λ (files : FilesSeen) (input : SourceSeen). gen_without_list c.args.size c.args.made files input c.in-NoList.line
    _ (g.O.Sink.seen c.args.out.now) (rw c.in-NoList.is at c.in_ok-text.ensures) refl refl
