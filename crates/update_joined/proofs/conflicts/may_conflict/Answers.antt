use Rattle.std.proofs.Common.{sym, ap, ◌∙◌}
use Rattle.std.proofs.lemmas.Bool.{true≢false}
use Rattle.std.specs.List.{list_any}
use Rattle.update_joined.specs.JoinedEntries.{have_one_title}
use Rattle.update_joined.proofs.QuietLemmas.{quiet}
use Rattle.update_joined.proofs.conflicts.may_conflict.Goals as goal

pub returns-then-may_meet : goal.returns-then-may_meet
returns-then-may_meet c = λ no. absurd (true≢false no)

pub returns : goal.returns
returns c = λ no.
    let before = c.args.titles.now.before.now in
    let after = c.args.titles.now.after.now in
    let news = c.args.news.now in
    quiet before after c.args.a.now news.index news.entries.items news.titled.items c.requires.titled c.requires.indexed
    (c.may_meet.ensures c.if-may_meet.false)
    (ap (list_any (have_one_title before after c.args.a.now)) (sym c.as_slice.ensures.value) ∙ (sym c.shares_title.ensures ∙ no))
