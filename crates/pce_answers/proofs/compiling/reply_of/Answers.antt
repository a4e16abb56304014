use Rattle.std.proofs.Common.{rules}
use Rattle.compile_commands.proofs.Compiling.{knows_none_in}
use Rattle.pce_answers.proofs.Answering.{text_none_in}
use Rattle.pce_answers.proofs.compiling.reply_of.Goals as goal

pub certificate-requires-clause-known : goal.certificate-requires-clause-known
certificate-requires-clause-known c =
    knows_none_in c.args.net.now c.args.intent.now c.args.answer.now c.in-Err-NoList.solution c.requires.network c.requires.intent
    c.requires.answers (search rules)

pub certificate-requires-clause-text : goal.certificate-requires-clause-text
certificate-requires-clause-text c =
    text_none_in c.args.net.now c.args.intent.now c.args.answer.now c.in-Err-NoList.solution c.requires.network c.requires.intent
    c.requires.answers (search rules)
