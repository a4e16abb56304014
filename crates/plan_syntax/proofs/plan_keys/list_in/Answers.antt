use Rattle.std.proofs.Common.{◌≡◌, ◌∙◌, map, sym, ap}
use Rattle.std.proofs.lemmas.Result.{err_from_is_err_and}
use Rattle.std.specs.Prelude.{Ok, Err}
use Rattle.toml.specs.View.{view}
use Rattle.plan_syntax.specs.PlanTree.{each_from}
use Rattle.plan_syntax.proofs.PlanCounts.{list_read, list_long}
use Rattle.plan_syntax.proofs.plan_keys.list_in.Goals as goal

pub returns : goal.returns
returns g c =
    list_read c.args.most g.X.PlanValue.kind c.args.place c.args.key _ c.in_ok-values.values.now.items _ c.in_ok-values.ensures
    c.in_ok-few.ensures.exact
    (ap (λ vs. each_from (λ n. g.X.PlanValue.kind c.args.place c.args.key) 0 (map view vs)) (sym c.as_slice.ensures.value)
    ∙ (c.in_ok-members.ensures ∙ ap Ok (sym c.new.ensures)))

pub returns-in_err-few : goal.returns-in_err-few
returns-in_err-few g c =
    let p = err_from_is_err_and c.from_residual-in_err-few.result c.from_residual-in_err-few.ensures.1 in
    rw p.1 (λ fault same.
    let is : c.in_err-few.field-0.0 ≡ fault = cc (p.2, same) in
    list_long c.args.most g.X.PlanValue.kind c.args.place c.args.key _ c.in_ok-values.values.now.items c.in_err-few.field-0.0
    c.in_ok-values.ensures c.in_err-few.ensures.exact
    ∙ ap Err is)

pub returns-in_err-members : goal.returns-in_err-members
returns-in_err-members g c =
    let p = err_from_is_err_and c.from_residual-in_err-members.result c.from_residual-in_err-members.ensures.1 in
    rw (p.1, p.2) (λ fault same.
    list_read c.args.most g.X.PlanValue.kind c.args.place c.args.key _ c.in_ok-values.values.now.items (Err fault) c.in_ok-values.ensures
    c.in_ok-few.ensures.exact
    (ap (λ vs. each_from (λ n. g.X.PlanValue.kind c.args.place c.args.key) 0 (map view vs)) (sym c.as_slice.ensures.value)
    ∙ c.in_err-members.ensures fault same))
