use Rattle.std.proofs.Common.{◌≡◌, ◌+◌, ◌-◌, ◌^◌, min, ap, ap₂, ◌∙◌}
use Rattle.update_joined.proofs.PrefixLemmas.{held_between, first_not_above}
use Rattle.update_joined.proofs.prefix_index.last_of.Goals as goal

pub returns-clause-first : goal.returns-clause-first
returns-clause-first c =
    let p = c.args.p.now in
    first_not_above p.value (2 ^ (128 - p.len)) (2 ^ 128) c.saturating_add.result c.value.ensures.is_prefix.1
    (c.saturating_add.ensures
    ∙ ap₂ (λ x y. min (x + y) (2 ^ 128 - 1)) c.value.ensures.value (c.ones.ensures ∙ ap (λ n. 2 ^ (128 - n) - 1) c.len.ensures.len))

pub returns-clause-all : goal.returns-clause-all
returns-clause-all c = λ a within held.
    let p = c.args.p.now in
    held_between p c.saturating_add.result a c.value.ensures.is_prefix
    (c.saturating_add.ensures
    ∙ ap₂ (λ x y. min (x + y) (2 ^ 128 - 1)) c.value.ensures.value (c.ones.ensures ∙ ap (λ n. 2 ^ (128 - n) - 1) c.len.ensures.len))
    within held
