use Rattle.std.proofs.Common.{List, Ok, ap, ◌∙◌}
use Rattle.std.specs.Prelude.{Option, find, map}
use Rattle.update_joined.specs.declared.entry.PlanEntry.{PlanEntry}
use Rattle.update_spec.specs.Planning.{Item, conflict, conflict_or}
use Rattle.update_joined.specs.JoinedEntries.{item_of}
use Rattle.update_joined.proofs.Meant.{among_added}
use Rattle.update_joined.proofs.conflicts.refuse_conflict_of.Goals as goal

pub returns-then-a : goal.returns-then-a
returns-then-a c =
    let a = item_of c.args.titles.now.before.now c.args.a.now in
    let titles = c.args.titles.now.after.now in
    c.refuse_known_conflict.ensures
    ∙ ap (λ (o : Option Item). conflict_or a o (Ok tt))
    (ap (λ (es : List PlanEntry). find (conflict a) (map (item_of titles) es)) c.requires.those
    ∙ among_added titles a c.args.news.now.entries.items c.if-a.true)
