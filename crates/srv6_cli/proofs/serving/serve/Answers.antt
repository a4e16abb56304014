use Rattle.srv6_cli.specs.Commands.{command_of}
use Rattle.command_output.specs.Verbs.{words_of}
use Rattle.srv6_cli.proofs.ServeLaws.{serves, told_whole}
use Rattle.srv6_cli.proofs.serving.serve.Goals as goal

pub conclude-requires : goal.conclude-requires
conclude-requires g c = told_whole _ c.command-answer.result _ _ c.command-answer.ensures

pub returns : goal.returns
returns g c =
    serves (command_of (words_of c.args.words.now)) c.command-answer.result c.conclude.result _ _ (g.E.Sink.seen c.conclude.new.err)
    c.command-answer.ensures c.conclude.ensures
