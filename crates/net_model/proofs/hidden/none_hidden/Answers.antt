use Rattle.std.proofs.Common.{rules}
use Rattle.net_model.proofs.HiddenLemmas.{none_hidden}
use Rattle.net_model.proofs.hidden.none_hidden.Goals as goal

pub returns-clause-none : goal.returns-clause-none
returns-clause-none c =
    none_hidden (record { routes = c.in_ok-vec.field-0; sids = c.in_ok-vec-2.field-0 }) _ _
    (c.in_ok-vec-2.ensures.items_if_clones_equal (λ y is. search rules)) (c.in_ok-vec.ensures.items_if_clones_equal (λ y is. search rules))
