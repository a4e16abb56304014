-- The cost of the state that is listed first, and paths of solutions.
use Rattle.std.proofs.Common.{◌≡◌, ℕ, zero, suc, ◌<◌, true, List, [], ◌∷◌, length, get_or, Option, Some, slice_get, Contains, AllPairs, refl, sym, ◌∙◌, ap, subst, arith}
use Rattle.std.specs.Option.{option_map}
use Rattle.std.proofs.lemmas.Bool.{false≢true}
use Rattle.std.proofs.lemmas.Option.{same_Some, slice_get-get_or}
use Rattle.list_pack.specs.declared.types.Cost.{Cost}
use Rattle.list_pack.specs.declared.types.State.{State}
use Rattle.list_pack.specs.declared.types.PathStep.{PathStep}
use Rattle.list_pack.specs.declared.types.Potential.{Potential}
use Rattle.list_pack.specs.ListOrder.{lex_before}
use Rattle.list_pack.specs.LegsValue.{LegsValue}
use Rattle.list_pack.specs.Costs.{Move, AtMost, cost_of, Under, start}
use Rattle.list_pack.specs.Least.{IsLeast, IsFirstLeast, state_key, IsBefore, IsListing, IsPath, IsPathOrNone}
use Rattle.list_pack.proofs.PublicLaws.{at_most_both}
use Rattle.path_compiler.specs.CompiledTerms.{cost_in}

-- nothing comes before the start
none_before : (key : List ℕ) → lex_before key [] ≡ true → ⊥
none_before [] h = false≢true h
none_before (x ∷ xs) h = false≢true h

-- what is listed of the start is listed first
place_zero : (v : LegsValue) (ps : List Potential) (c : Cost) (k : ℕ) → AllPairs (λ (p q : Potential). IsBefore v p.state q.state) ps
    → k < length ps → get_or ps k (record { state = start; cost = c }) ≡ record { state = start; cost = c }
    → slice_get ps 0 ≡ Some (record { state = start; cost = c })
place_zero v ps c zero order h e = slice_get-get_or ps 0 (record { state = start; cost = c }) h ∙ ap Some e
place_zero v ps c (suc k) order h e =
    let q : Potential = record { state = start; cost = c } in
    let before : IsBefore v (get_or ps 0 q).state (get_or ps (suc k) q).state = order 0 (suc k) q (omega arith) h in
    absurd (none_before (state_key v (get_or ps 0 q).state)
    (subst (λ (x : Potential). IsBefore v (get_or ps 0 q).state x.state) e before))

-- where a path leads from the start to the end, the start is listed first, with the least cost
pub record StartsWith (v : LegsValue) (ps : List Potential) (c : Cost) : Type 0 where
  pub is : slice_get ps 0 ≡ Some (record { state = start; cost = c })
  pub least : IsLeast v start (Some c)

pub starts_with : (v : LegsValue) (ps : List Potential) (moves : List Move) (c : Cost) → IsListing v ps
    → cost_of v start moves ≡ Some c → (d : Cost) × StartsWith v ps d
starts_with v ps moves c listing cost =
    let listed = listing.listed start moves c (refl, refl) cost in
    let among : Contains ps (record { state = start; cost = listed.0 }) = listed.1 in (
      listed.0,
      record {
        is = place_zero v ps listed.0 among.0 listing.order among.1 among.2;
        least = (listing.exact (record { state = start; cost = listed.0 }) among).1;
      },
    )

-- two least costs are one
pub costs_same : (v : LegsValue) (s : State) (moves : List Move) (c d : Cost) → IsFirstLeast v s c moves → IsLeast v s (Some d) → d ≡ c
costs_same v s moves c d first least =
    let down : AtMost d c = subst (λ (o : Option Cost). Under (Some d) o) first.cost (least.least moves) in
    let other = least.attains in
    let up : AtMost c d = subst (λ (o : Option Cost). Under (Some c) o) other.1 (first.least other.0) in
    at_most_both d c down up

pub is_path_law : (v : LegsValue) (path : List PathStep) → 0 < length path → IsPathOrNone v path → IsPath v path
is_path_law v [] h p = absurd (omega (arith, h))
is_path_law v (x ∷ xs) h p = p

-- the cost that is read is the least
pub cost_read : (v : LegsValue) (ps : List Potential) (moves : List Move) (c d : Cost) → IsListing v ps
    → IsFirstLeast v start c moves → option_map cost_in (slice_get ps 0) ≡ Some d → d ≡ c
cost_read v ps moves c d listing first read =
    let begin = starts_with v ps moves c listing first.cost in
    sym (same_Some begin.0 d (ap (option_map cost_in) (sym begin.1.is) ∙ read))
    ∙ costs_same v start moves c begin.0 first begin.1.least
