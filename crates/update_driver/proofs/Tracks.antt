-- Packets come nearer to their ends by events, and those that have ended stay so.
use Rattle.std.proofs.Common.{◌≡◌, ◌⊎◌, inl, inr, ℕ, zero, suc, ◌+◌, ◌<◌, ◌≤◌, true, false, is_some, List, [], ◌∷◌, ◌++◌, length, slice_get, slice_set, Option, Some, None, refl, sym, ap, ◌∙◌, subst, arith}
use Rattle.std.specs.Prelude.{⊤}
use Rattle.net_model.specs.Network.{Network}
use Rattle.walk_rules.specs.declared.limits.TheConstants.{MAX_STAGES}
use Rattle.walk_rules.specs.declared.place.Ended.{Ended}
use Rattle.packet_walk.specs.Flight.{InFlight, Packets, packet_in, staged, turned, turned_by, turned_where, with_packet, within}
use Rattle.packet_walk.specs.FlightTerms.{IsCounted}
use Rattle.packet_walk.proofs.PublicLaws.{packet_same, staged_counted}
use Rattle.update_driver.specs.Going.{ended_in}

-- ---- lists of which one element is another, or that are longer by one

pub set_cases : {X : Type 0} → (xs : List X) (i j : ℕ) (y : X) → (slice_get (slice_set xs i y) j ≡ slice_get xs j)
    ⊎ ((i ≡ j) × (slice_get (slice_set xs i y) j ≡ Some y))
set_cases [] i j y = inl refl
set_cases (x ∷ xs) zero zero y = inr (refl, refl)
set_cases (x ∷ xs) zero (suc j) y = inl refl
set_cases (x ∷ xs) (suc i) zero y = inl refl
set_cases {X} (x ∷ xs) (suc i) (suc j) y = by (set_cases xs i j y)
  where
    by : (slice_get (slice_set xs i y) j ≡ slice_get xs j) ⊎ ((i ≡ j) × (slice_get (slice_set xs i y) j ≡ Some y))
        → (slice_get (slice_set xs i y) j ≡ slice_get xs j) ⊎ ((suc i ≡ suc j) × (slice_get (slice_set xs i y) j ≡ Some y))
    by (inl same) = inl same
    by (inr h) = inr (ap suc h.0, h.1)

pub get_behind : {X : Type 0} → (xs : List X) (x y : X) (i : ℕ) → slice_get (xs ++ x ∷ []) i ≡ Some y
    → (slice_get xs i ≡ Some y) ⊎ (x ≡ y)
get_behind [] x y zero h = let same : x ≡ y = cc in inr same
get_behind [] x y (suc i) h = absurd (cc)
get_behind (z ∷ xs) x y zero h = inl h
get_behind (z ∷ xs) x y (suc i) h = get_behind xs x y i h

pub get_front : {X : Type 0} → (xs ys : List X) (i : ℕ) → i < length xs → slice_get (xs ++ ys) i ≡ slice_get xs i
get_front [] ys i within = absurd (omega (arith, within))
get_front (x ∷ xs) ys zero within = refl
get_front (x ∷ xs) ys (suc i) within = get_front xs ys i (omega (arith, within))

-- ---- how many stages a packet may have yet, at most

abbrev pub LeftOf : ℕ → InFlight → Option Ended → Type 0
LeftOf n p None = MAX_STAGES ≤ n + p.stages
LeftOf n p (Some end) = ⊤

abbrev pub LeftIn : ℕ → Option InFlight → Type 0
LeftIn n None = ⊤
LeftIn n (Some p) = LeftOf n p p.ended

left_any : (n : ℕ) (p : InFlight) (e : Option Ended) → MAX_STAGES ≤ n + p.stages → LeftOf n p e
left_any n p None most = most
left_any n p (Some end) most = tt

left_over : (n : ℕ) (p : InFlight) (e : Option Ended) → is_some e ≡ true → LeftOf n p e
left_over n p None over = absurd (cc)
left_over n p (Some end) over = tt

left_ended : (n : ℕ) (o : Option InFlight) → ended_in o ≡ true → LeftIn n o
left_ended n None over = tt
left_ended n (Some p) over = left_over n p p.ended over

pub left_most : (n : ℕ) → MAX_STAGES ≤ n → (o : Option InFlight) → LeftIn n o
left_most n most None = tt
left_most n most (Some p) = left_any n p p.ended (omega (arith, most))

-- every packet keeps within the stages that it may have
abbrev pub AllCounted : List InFlight → Type 0
AllCounted ps = (i : ℕ) (p : InFlight) → slice_get ps i ≡ Some p → IsCounted p

none_where : (p : InFlight) (e : Option Ended) → p.ended ≡ e → IsCounted p → LeftOf 0 p e → is_some e ≡ true
none_where p None is counted most = let less = counted.left is in absurd (omega (arith, less, most))
none_where p (Some end) is counted most = refl

none_by : (ps : List InFlight) (i : ℕ) (o : Option InFlight) → slice_get ps i ≡ o → AllCounted ps → LeftIn 0 o → ended_in o ≡ true
none_by ps i None there counted most = refl
none_by ps i (Some p) there counted most = none_where p p.ended refl (counted i p there) most

-- one that may have no stage has ended
pub none_left : (ps : List InFlight) (k : ℕ) → AllCounted ps → LeftIn 0 (packet_in ps k) → ended_in (packet_in ps k) ≡ true
none_left ps zero counted most = refl
none_left ps (suc before) counted most = none_by ps before (slice_get ps before) refl counted most

-- ---- a turn

with_from : (k i : ℕ) (ps : List InFlight) (p q x : InFlight) → packet_in ps k ≡ Some p → slice_get (with_packet ps k x) i ≡ Some q
    → (slice_get ps i ≡ Some q) ⊎ ((slice_get ps i ≡ Some p) × (x ≡ q))
with_from zero i ps p q x there h = inl h
with_from (suc j) i ps p q x there h = by (set_cases ps j i x)
  where
    by : (slice_get (slice_set ps j x) i ≡ slice_get ps i) ⊎ ((j ≡ i) × (slice_get (slice_set ps j x) i ≡ Some x))
        → (slice_get ps i ≡ Some q) ⊎ ((slice_get ps i ≡ Some p) × (x ≡ q))
    by (inl same) = inl (sym same ∙ h)
    by (inr e) = let both : Some x ≡ Some q = sym e.1 ∙ h in let one : x ≡ q = cc in inr (ap (slice_get ps) (sym e.0) ∙ there, one)

module _ (net : Network) (k : ℕ) (all : Packets) where
  abbrev ps : List InFlight
  ps = all.packets

  abbrev new : List InFlight
  new = (turned k (within net all)).packets

  abbrev Stood : Option InFlight → List InFlight → Type 0
  Stood o qs = (qs ≡ ps) × (ended_in o ≡ true)

  abbrev Moved : Option InFlight → List InFlight → Type 0
  Moved o qs = (p : InFlight) × (o ≡ Some p) × (p.ended ≡ None) × (qs ≡ with_packet ps k (staged net p))

  turn_where : (p : InFlight) (e : Option Ended) → p.ended ≡ e
      → (((turned_where k (within net all) p e).packets ≡ ps) × (is_some e ≡ true))
      ⊎ Moved (Some p) (turned_where k (within net all) p e).packets
  turn_where p None is = inr (p, refl, is, refl)
  turn_where p (Some end) is = inl (refl, refl)

  turn_by : (o : Option InFlight) → Stood o (turned_by k (within net all) o).packets ⊎ Moved o (turned_by k (within net all) o).packets
  turn_by None = inl (refl, refl)
  turn_by (Some p) = turn_where p p.ended refl

  turn_one : Stood (packet_in ps k) new ⊎ Moved (packet_in ps k) new
  turn_one = turn_by (packet_in ps k)

  -- each packet after it was there before, or took a stage
  abbrev From : ℕ → InFlight → Type 0
  From i q = (slice_get ps i ≡ Some q) ⊎ ((p : InFlight) × (slice_get ps i ≡ Some p) × (p.ended ≡ None) × (staged net p ≡ q))

  turned_from : (i : ℕ) (q : InFlight) → slice_get new i ≡ Some q → From i q
  turned_from i q h = by turn_one
    where
      onward : (p : InFlight) → p.ended ≡ None → (slice_get ps i ≡ Some q) ⊎ ((slice_get ps i ≡ Some p) × (staged net p ≡ q)) → From i q
      onward p going (inl same) = inl same
      onward p going (inr e) = inr (p, e.0, going, e.1)

      by : Stood (packet_in ps k) new ⊎ Moved (packet_in ps k) new → From i q
      by (inl stood) = inl (subst (λ (qs : List InFlight). slice_get qs i ≡ Some q) stood.0 h)
      by (inr m) = onward m.0 m.2 (with_from k i ps m.0 q (staged net m.0) m.1
          (subst (λ (qs : List InFlight). slice_get qs i ≡ Some q) m.3 h))

  pub turned_counted : AllCounted ps → AllCounted new
  turned_counted counted i q h = by (turned_from i q h)
    where
      by : From i q → IsCounted q
      by (inl same) = counted i q same
      by (inr m) = subst IsCounted m.3 (staged_counted net m.0 m.2 (counted i m.0 m.1))

  ended_from : (i : ℕ) (q : InFlight) → ended_in (slice_get ps i) ≡ true → From i q → is_some q.ended ≡ true
  ended_from i q over (inl same) = subst (λ (o : Option InFlight). ended_in o ≡ true) same over
  ended_from i q over (inr m) =
      let one : is_some m.0.ended ≡ true = subst (λ (o : Option InFlight). ended_in o ≡ true) m.1 over in
      let none : is_some m.0.ended ≡ false = ap (λ (e : Option Ended). is_some e) m.2 in absurd (cc)

  ended_at : (i : ℕ) (o : Option InFlight) → slice_get new i ≡ o → ended_in (slice_get ps i) ≡ true → ended_in o ≡ true
  ended_at i None h over = refl
  ended_at i (Some q) h over = ended_from i q over (turned_from i q h)

  -- one that had ended has
  pub turned_over : (j : ℕ) → ended_in (packet_in ps j) ≡ true → ended_in (packet_in new j) ≡ true
  turned_over zero over = refl
  turned_over (suc i) over = ended_at i (slice_get new i) refl over

  -- the one whose turn it is may have one stage less
  pub turned_left : (n : ℕ) → LeftIn (suc n) (packet_in ps k) → LeftIn n (packet_in new k)
  turned_left n left = by turn_one
    where
      by : Stood (packet_in ps k) new ⊎ Moved (packet_in ps k) new → LeftIn n (packet_in new k)
      by (inl stood) = subst (λ (qs : List InFlight). LeftIn n (packet_in qs k)) (sym stood.0) (left_ended n (packet_in ps k) stood.1)
      by (inr m) =
          let most : MAX_STAGES ≤ suc n + m.0.stages =
          subst (λ (e : Option Ended). LeftOf (suc n) m.0 e) m.2 (subst (LeftIn (suc n)) m.1 left) in
          let less : MAX_STAGES ≤ n + (m.0.stages + 1) = omega (arith, most) in
          subst (λ (qs : List InFlight). LeftIn n (packet_in qs k)) (sym m.3)
          (subst (LeftIn n) (sym (packet_same ps k m.0 (staged net m.0) m.1)) (left_any n (staged net m.0) (staged net m.0).ended less))
