use Rattle.std.proofs.Common.{◌∙◌, map, sym, ap}
use Rattle.std.proofs.lemmas.Result.{err_from_is_err_and}
use Rattle.std.specs.Prelude.{Ok, Err}
use Rattle.toml.specs.View.{table_view}
use Rattle.plan_syntax.specs.PlanTree.{each_from}
use Rattle.plan_syntax.proofs.PlanCounts.{items_read}
use Rattle.plan_syntax.proofs.plan_items.items_at.Goals as goal

pub returns : goal.returns
returns g c =
    items_read c.args.kind c.args.key c.args.most g.X.Says.of _ (λ t. table_view t.now) c.in_ok-tables.tables.items _
    (rw c.whole-place.ensures at c.in_ok-tables.ensures) (rw c.whole-place.ensures at c.in_ok-few.ensures.exact)
    (ap (λ ts. each_from (λ n. g.X.Says.of (record { table = c.args.kind; item = n })) 1 (map (λ t. table_view t.now) ts))
    (sym c.as_slice.ensures.value)
    ∙ (c.in_ok-all.ensures ∙ ap Ok (sym c.new.ensures)))

pub returns-in_err-all : goal.returns-in_err-all
returns-in_err-all g c =
    let p = err_from_is_err_and c.from_residual-in_err-all.result c.from_residual-in_err-all.ensures.1 in
    rw (p.1, p.2) (λ fault same.
    items_read c.args.kind c.args.key c.args.most g.X.Says.of _ (λ t. table_view t.now) c.in_ok-tables.tables.items (Err fault)
    (rw c.whole-place.ensures at c.in_ok-tables.ensures) (rw c.whole-place.ensures at c.in_ok-few.ensures.exact)
    (ap (λ ts. each_from (λ n. g.X.Says.of (record { table = c.args.kind; item = n })) 1 (map (λ t. table_view t.now) ts))
    (sym c.as_slice.ensures.value)
    ∙ c.in_err-all.ensures fault same))
