use Rattle.std.proofs.Common.{ℕ, Option, sym, ◌∙◌, ap, subst}
use Rattle.list_encoder.specs.CellTable.{rest_at, AreInRange}
use Rattle.list_encoder.proofs.cell_table.rest_at.Goals as goal

pub returns-in-None : goal.returns-in-None
returns-in-None c = ap (λ (o : Option ℕ). rest_at c.args.table.now o c.args.room) (sym c.in-None.is)

pub entry-requires : goal.entry-requires
entry-requires c = subst (λ (o : Option ℕ). AreInRange c.args.table.now o c.args.room) c.in-Some.is c.requires

pub returns-in-Some : goal.returns-in-Some
returns-in-Some c = c.entry.ensures ∙ ap (λ (o : Option ℕ). rest_at c.args.table.now o c.args.room) (sym c.in-Some.is)
