-- The links of cables that a loop makes, one cable on.
use Rattle.std.proofs.Common.{◌≡◌, ◌∙◌, ℕ, ◌+◌, ◌<◌, List, [], ◌∷◌, ◌++◌, length, get_or, take, drop, Option, ap, sym, subst}
use Rattle.std.proofs.lemmas.List.{drop_more, take_more}
use Rattle.plan_syntax.specs.declared.cable_table.DescribedCable.{DescribedCable}
use Rattle.net_plan.specs.declared.plan_links.PlanLink.{PlanLink}
use Rattle.net_plan.specs.CableLinks.{link_there, link_back, cable_links}

pub cable_turn : (mtu : Option ℕ) (cables : List DescribedCable) (n : ℕ) (cable : DescribedCable) (front : List DescribedCable)
    (links more all : List PlanLink) (there back : PlanLink) → n < length cables → cable ≡ get_or cables n cable → front ≡ take n cables
    → there ≡ link_there mtu front cable → back ≡ link_back mtu front cable
    → ((rest : List PlanLink) → more ++ rest ≡ links ++ there ∷ (back ∷ rest))
    → links ++ cable_links mtu (take n cables) (drop n cables) ≡ all
    → more ++ cable_links mtu (take (n + 1) cables) (drop (n + 1) cables) ≡ all
cable_turn mtu cables n cable front links more all there back low is before t b put so_far =
    let early = take n cables in
    let rest = drop (n + 1) cables in
    let next = cable_links mtu (early ++ cable ∷ []) rest in
    let one : take (n + 1) cables ≡ early ++ cable ∷ [] =
    take_more cables n cable low ∙ ap (λ (x : DescribedCable). early ++ x ∷ []) (sym is) in
    let left : drop n cables ≡ cable ∷ rest = drop_more cables n cable low ∙ ap (λ (x : DescribedCable). x ∷ rest) (sym is) in
    let first : there ≡ link_there mtu early cable = t ∙ ap (λ (f : List DescribedCable). link_there mtu f cable) before in
    let second : back ≡ link_back mtu early cable = b ∙ ap (λ (f : List DescribedCable). link_back mtu f cable) before in
    let here : links ++ cable_links mtu early (cable ∷ rest) ≡ all =
    subst (λ (cs : List DescribedCable). links ++ cable_links mtu early cs ≡ all) left so_far in
    ap (λ (f : List DescribedCable). more ++ cable_links mtu f rest) one
    ∙ (put next
    ∙ (ap (λ (x : PlanLink). links ++ x ∷ (back ∷ next)) first
    ∙ (ap (λ (y : PlanLink). links ++ link_there mtu early cable ∷ (y ∷ next)) second ∙ here)))
