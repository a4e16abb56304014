use Rattle.std.proofs.Common.{sym}
use Rattle.update_joined.proofs.QuietLemmas.{none_without_title}
use Rattle.update_joined.proofs.conflicts.shares_title.Goals as goal

pub returns-in-None : goal.returns-in-None
returns-in-None c =
    sym (none_without_title c.args.titles.now.before.now c.args.titles.now.after.now c.args.a.now c.args.titled.now c.in-None.is)
