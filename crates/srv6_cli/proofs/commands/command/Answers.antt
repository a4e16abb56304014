use Rattle.std.proofs.Common.{sym, ap, ◌∙◌}
use Rattle.std.proofs.lemmas.Result.{err_from_is_err_and}
use Rattle.srv6_cli.specs.Commands.{command_of, spec_of}
use Rattle.srv6_cli.specs.CommandsTerms.{command_seen}
use Rattle.command_output.specs.Verbs.{words_of}
use Rattle.command_output.proofs.PublicLaws.{memory_first}
use Rattle.srv6_cli.proofs.Usage.{usage_commands}
use Rattle.srv6_cli.proofs.commands.command.Goals as goal

pub returns-in_err-words : goal.returns-in_err-words
returns-in_err-words g c =
    let p = err_from_is_err_and c.from_residual.result c.from_residual.ensures.1 in
    rw (p.1, p.2) (memory_first (spec_of (command_of (words_of c.args.words.now)))
    (g.F.Files.seen c.args.files.now) (g.S.Source.seen c.args.input.now) (g.O.Sink.seen c.args.out.now) (g.E.Sink.seen c.args.err.now))

pub returns-in-Unknown : goal.returns-in-Unknown
returns-in-Unknown g c =
    usage_commands (command_of (words_of c.args.words.now)) c.usage.result
    (g.F.Files.seen c.args.files.now) (g.S.Source.seen c.args.input.now)
    (g.O.Sink.seen c.args.out.now) (ap command_seen (sym c.in-Unknown.is) ∙ c.in_ok-words.ensures.spelled) c.usage.ensures
    (g.E.Sink.seen c.args.err.now)
