use Rattle.std.proofs.Common.{List, Option, Ok, map, find, sym, ap, ◌∙◌}
use Rattle.update_spec.specs.Planning.{Item, conflict, conflict_or}
use Rattle.update_joined.specs.declared.entry.PlanEntry.{PlanEntry}
use Rattle.update_joined.specs.JoinedEntries.{item_of}
use Rattle.update_joined.proofs.conflicts.refuse_known_conflict.Goals as goal

pub returns-then-not-may_conflict : goal.returns-then-not-may_conflict
returns-then-not-may_conflict c =
    ap (λ (o : Option Item). conflict_or (item_of c.args.titles.now.before.now c.args.a.now) o (Ok tt))
    (sym (c.may_conflict.ensures c.if-not-may_conflict.true))

pub returns : goal.returns
returns c =
    let a = item_of c.args.titles.now.before.now c.args.a.now in
    c.refuse_conflict_among.ensures
    ∙ ap (λ (es : List PlanEntry). conflict_or a (find (conflict a) (map (item_of c.args.titles.now.after.now) es)) (Ok tt))
    c.as_slice.ensures.value
