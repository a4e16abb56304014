-- The first packet in flight of some packets.
use Rattle.std.proofs.Common.{◌≡◌, ◌⊎◌, inl, inr, ℕ, zero, suc, ◌+◌, ◌-◌, ◌<◌, ◌≤◌, Bool, true, false, if◌then◌else◌, List, [], ◌∷◌, take, slice_get, Option, Some, None, IfSome, IsSome, is_some, refl, sym, ap, ◌∙◌, arith, subst}
use Rattle.std.proofs.lemmas.Bool.{false≢true}
use Rattle.walk_rules.specs.declared.place.Ended.{Ended}
use Rattle.packet_walk.specs.Flight.{InFlight, packet_in}
use Rattle.update_flight.specs.Transition.{first_going}
use Rattle.update_flight.specs.TransitionTerms.{HaveEnded}

pub ended_or_not : (e : Option Ended) → (e ≡ None) ⊎ IsSome e
ended_or_not None = inl refl
ended_or_not (Some end) = inr refl

none≢some : (end : Ended) → Some end ≡ None → ⊥
none≢some end e = cc

pub going_or_ended : (e : Option Ended) → e ≡ None → IsSome e → ⊥
going_or_ended None going some = absurd (false≢true some)
going_or_ended (Some end) going some = absurd (none≢some end going)

some≢nothing : {X : Type 0} (x : X) → Some x ≡ None → ⊥
some≢nothing x e = cc

some_is : {X : Type 0} (x y : X) → Some x ≡ Some y → x ≡ y
some_is x y e = cc

first_skip : (n : ℕ) (p : InFlight) (more : List InFlight) → IsSome p.ended → first_going n (p ∷ more) ≡ first_going (n + 1) more
first_skip n p more over = ap (λ (b : Bool). if b then first_going (n + 1) more else Some n) over

first_here : (n : ℕ) (p : InFlight) (more : List InFlight) → p.ended ≡ None → first_going n (p ∷ more) ≡ Some n
first_here n p more going = ap (λ (e : Option Ended). if is_some e then first_going (n + 1) more else Some n) going

abbrev AllEnded : List InFlight → Type 0
AllEnded packets = (i : ℕ) (p : InFlight) → slice_get packets i ≡ Some p → IsSome p.ended

first_none : (n : ℕ) (packets : List InFlight) → AllEnded packets → first_going n packets ≡ None
first_none n [] ended = refl
first_none n (p ∷ more) ended =
    first_skip n p more (ended 0 p refl) ∙ first_none (n + 1) more (λ i q there. ended (suc i) q there)

first_at : (n : ℕ) (packets : List InFlight) (k : ℕ) (p : InFlight) → slice_get packets k ≡ Some p → p.ended ≡ None
    → ((i : ℕ) (q : InFlight) → i < k → slice_get packets i ≡ Some q → IsSome q.ended) → first_going n packets ≡ Some (n + k)
first_at n [] k p there going ended = cc
first_at n (q ∷ more) zero p there going ended =
    let e : n + 0 ≡ n = omega arith in
    first_here n q more (ap (λ (x : InFlight). x.ended) (some_is q p there) ∙ going) ∙ ap (λ (m : ℕ). Some m) (sym e)
first_at n (q ∷ more) (suc k) p there going ended =
    let e : n + 1 + k ≡ n + suc k = omega arith in
    first_skip n q more (ended 0 q (omega arith) refl)
    ∙ (first_at (n + 1) more k p there going (λ i r before is. ended (suc i) r (omega (arith, before)) is)
    ∙ ap (λ (m : ℕ). Some m) e)

-- and back

pub first_all : (n : ℕ) (packets : List InFlight) → first_going n packets ≡ None → AllEnded packets
first_all n [] none i p there = cc
first_all n (q ∷ more) none i p there = elim (ended_or_not q.ended) [
  | inl going ↦ absurd (some≢nothing n (sym (first_here n q more going) ∙ none))
  | inr over ↦ all_behind n q more over (first_all (n + 1) more (sym (first_skip n q more over) ∙ none)) i p there
] where
  all_behind : (n : ℕ) (q : InFlight) (more : List InFlight) → IsSome q.ended → AllEnded more → AllEnded (q ∷ more)
  all_behind n q more over ended zero p there = subst (λ (x : InFlight). IsSome x.ended) (some_is q p there) over
  all_behind n q more over ended (suc i) p there = ended i p there

-- the first of so many

get_take : {X : Type 0} (xs : List X) (count i : ℕ) → i < count → slice_get (take count xs) i ≡ slice_get xs i
get_take [] zero i within = absurd (omega (arith, within))
get_take [] (suc count) i within = refl
get_take (x ∷ xs) zero i within = absurd (omega (arith, within))
get_take (x ∷ xs) (suc count) zero within = refl
get_take (x ∷ xs) (suc count) (suc i) within = get_take xs count i (omega (arith, within))

get_of_take : {X : Type 0} (xs : List X) (count i : ℕ) (x : X) → slice_get (take count xs) i ≡ Some x
    → (i < count) × (slice_get xs i ≡ Some x)
get_of_take [] zero i x there = absurd (some≢nothing x (sym there))
get_of_take [] (suc count) i x there = absurd (some≢nothing x (sym there))
get_of_take (y ∷ xs) zero i x there = absurd (some≢nothing x (sym there))
get_of_take (y ∷ xs) (suc count) zero x there = (omega arith, there)
get_of_take (y ∷ xs) (suc count) (suc i) x there =
    let behind = get_of_take xs count i x there in
    let within = behind.0 in
    (omega (arith, within), behind.1)

pub none_early : (count : ℕ) (packets : List InFlight) → HaveEnded count packets → first_going 1 (take count packets) ≡ None
none_early count packets ended =
    first_none 1 (take count packets) (λ i p there.
    let at = get_of_take packets count i p there in
    let within = at.0 in
    ended (suc i) p (omega (arith, within)) at.1)

pub early_none : (count : ℕ) (packets : List InFlight) → first_going 1 (take count packets) ≡ None → HaveEnded count packets
early_none count packets none zero p few there = cc
early_none count packets none (suc i) p few there =
    first_all 1 (take count packets) none i p (get_take packets count i (omega (arith, few)) ∙ there)

pub first_early_law : (count passed : ℕ) (packets : List InFlight) (p : InFlight) → passed < count → HaveEnded passed packets
    → slice_get packets passed ≡ Some p → p.ended ≡ None → first_going 1 (take count packets) ≡ Some (suc passed)
first_early_law count passed packets p few ended there going =
    let e : 1 + passed ≡ suc passed = omega arith in
    first_at 1 (take count packets) passed p (get_take packets count passed few ∙ there) going
    (λ i q before is. ended (suc i) q (omega (arith, before)) (get_of_take packets count i q is).1)
    ∙ ap (λ (m : ℕ). Some m) e

-- it is in flight, and those in front of it have ended

abbrev FirstIn : ℕ → List InFlight → ℕ → Type 0
FirstIn n packets number =
    (k : ℕ) × (p : InFlight) × (number ≡ n + k) × (slice_get packets k ≡ Some p) × (p.ended ≡ None)
    × ((i : ℕ) (q : InFlight) → i < k → slice_get packets i ≡ Some q → IsSome q.ended)

first_in : (n : ℕ) (packets : List InFlight) (number : ℕ) → first_going n packets ≡ Some number → FirstIn n packets number
first_in n [] number is = absurd (some≢nothing number (sym is))
first_in n (p ∷ more) number is = elim (ended_or_not p.ended) [
  | inl going ↦
      let here : n ≡ number = some_is n number (sym (first_here n p more going) ∙ is) in
      (0, p, omega (arith, here), refl, going, λ i q before there. absurd (omega (arith, before)))
  | inr over ↦
      let behind = first_in (n + 1) more number (sym (first_skip n p more over) ∙ is) in
      let e = behind.2 in
      (suc behind.0, behind.1, omega (arith, e), behind.3, behind.4, in_front p more over behind.0 behind.5)
] where
  in_front : (p : InFlight) (more : List InFlight) → IsSome p.ended → (k : ℕ)
      → ((i : ℕ) (q : InFlight) → i < k → slice_get more i ≡ Some q → IsSome q.ended)
      → (i : ℕ) (q : InFlight) → i < suc k → slice_get (p ∷ more) i ≡ Some q → IsSome q.ended
  in_front p more over k ended zero q before there = subst (λ (x : InFlight). IsSome x.ended) (some_is p q there) over
  in_front p more over k ended (suc i) q before there = ended i q (omega (arith, before)) there

pub first_waits : (count number : ℕ) (packets : List InFlight) → first_going 1 (take count packets) ≡ Some number
    → (number ≤ count) × IfSome (packet_in packets number) (λ p. p.ended ≡ None) × HaveEnded (number - 1) packets
first_waits count number packets is =
    let first = first_in 1 (take count packets) number is in
    let k : ℕ = first.0 in
    let e : number ≡ suc k = (let at = first.2 in omega (arith, at)) in
    let there = get_of_take packets count k first.1 first.3 in
    let within = there.0 in (
      omega (arith, e, within),
      subst (λ (m : ℕ). IfSome (packet_in packets m) (λ p. p.ended ≡ None)) (sym e)
          (subst (λ (o : Option InFlight). IfSome o (λ p. p.ended ≡ None)) (sym there.1) first.4),
      front_ended k e within first.5,
    ) where
      front_ended : (k : ℕ) → number ≡ suc k → k < count
          → ((i : ℕ) (q : InFlight) → i < k → slice_get (take count packets) i ≡ Some q → IsSome q.ended)
          → HaveEnded (number - 1) packets
      front_ended k e within ended zero p few at = cc
      front_ended k e within ended (suc i) p few at =
          ended i p (omega (arith, few, e)) (get_take packets count i (omega (arith, few, e, within)) ∙ at)
