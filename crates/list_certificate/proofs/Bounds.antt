-- The least costs that a listing has are of 32 bits: its states are few, and along a least path a cost falls by at most 1000 a move, so
-- that it needs as many states as it has thousands.
use Rattle.std.proofs.Common.{◌≡◌, ℕ, zero, suc, ◌+◌, ◌*◌, ◌/◌, ◌^◌, ◌<◌, ◌≤◌, inl, inr, Bool, true, false, cond, eqb, ◌==◌, List, [], ◌∷◌, length, map, Contains, Option, Some, None, get_or, slice_get, option_map, refl, sym, ◌∙◌, ap, subst, arith}
use Rattle.std.specs.List.{list_any}
use Rattle.std.proofs.lemmas.Bool.{false≢true, cases_lt, eqb-true, eq-eqb, ne_eqb, or_left, or_right, or_cases}
use Rattle.std.proofs.lemmas.List.{get_or-map, length-map}
use Rattle.std.proofs.lemmas.Map.Keys.{IsDistinct-from_apart}
use Rattle.std.proofs.lemmas.Map.Steps.{le-length_from_below, length-le_from_distinct_below}
use Rattle.std.proofs.lemmas.Option.{none-some, same_Some, slice_get_within, slice_get-get_or}
use Rattle.list_pack.specs.declared.types.Cost.{Cost}
use Rattle.list_pack.specs.declared.types.State.{State}
use Rattle.list_pack.specs.declared.types.Potential.{Potential}
use Rattle.list_pack.specs.ListOrder.{lex_before}
use Rattle.list_pack.specs.LegsValue.{LegsValue}
use Rattle.list_pack.specs.LegsValueTerms.{KeepsLaws}
use Rattle.list_pack.specs.Costs.{Move, Edge, AtMost, Under, plus, move_cost, behind, cost_of, IsState, IsStateBy}
use Rattle.list_pack.specs.Least.{state_key, IsBefore, IsLeast, IsListing}
use Rattle.list_pack.proofs.PublicLaws.{at_most_both, edge_parts, last_parts, split_of}
use Rattle.list_pack.proofs.Costing.{edge_state}
use Rattle.list_pack.proofs.ListOrders.{lex_itself}
use Rattle.list_certificate.specs.declared.certificate_types.Form.TheVariants.{First, Second}
use Rattle.list_certificate.specs.Spelling.{form_of}
use Rattle.list_certificate.proofs.MovesPassing.{place_in}
use Rattle.list_certificate.proofs.States.{state_made}
use Rattle.list_certificate.proofs.LineWords.{HasSids, room_few, position_few}
use Rattle.list_certificate.proofs.OneVerdict.{Onward, onward}

-- ---- a number for each state

abbrev index_in : ℕ → List ℕ → ℕ
index_in n [] = 0
index_in n (m ∷ ms) = cond (m == n) 0 (suc (index_in n ms))

abbrev IsIndex : ℕ → List ℕ → ℕ → Type 0
IsIndex n xs i = (i < length xs) × (slice_get xs i ≡ Some n)

index_by : (n x : ℕ) (xs : List ℕ) (b : Bool) → (x == n) ≡ b → ((x == n) ≡ false → IsIndex n xs (index_in n xs))
    → IsIndex n (x ∷ xs) (cond b 0 (suc (index_in n xs)))
index_by n x xs true e rest = (omega arith, ap (λ (y : ℕ). Some y) (eqb-true x n e))
index_by n x xs false e rest = let more = rest e in (omega (arith, more.0), more.1)

index_at : (n : ℕ) (xs : List ℕ) (i : ℕ) → slice_get xs i ≡ Some n → IsIndex n xs (index_in n xs)
index_at n [] i e = absurd (none-some n e)
index_at n (x ∷ xs) zero e =
    index_by n x xs (x == n) refl (λ other. absurd (false≢true (sym other ∙ eq-eqb x n (same_Some x n e))))
index_at n (x ∷ xs) (suc i) e = index_by n x xs (x == n) refl (λ other. index_at n xs i e)

abbrev number_by : LegsValue → ℕ → Option ℕ → ℕ → ℕ
number_by v position None room = 0
number_by v position (Some n) room = 1 + (position * 16512 + index_in n (v.sids_at position) * 129 + room)

abbrev number_of : LegsValue → State → ℕ
number_of v s = number_by v s.position s.via s.room

parts_same : (a b i j r s : ℕ) → i < 128 → j < 128 → r ≤ 128 → s ≤ 128
    → 1 + (a * 16512 + i * 129 + r) ≡ 1 + (b * 16512 + j * 129 + s)
    → (a ≡ b) × (i ≡ j) × (r ≡ s)
parts_same a b i j r s hi hj hr hs e =
    let one : a ≡ b = omega (arith, hi, hj, hr, hs, e) in
    let two : i ≡ j = omega (arith, one, hr, hs, e) in
    let three : r ≡ s = omega (arith, one, two, e) in
    (one, two, three)

index_of : (v : LegsValue) → KeepsLaws v → (position n : ℕ) → position ≤ v.steps → Contains (v.sids_at position) n
    → (index_in n (v.sids_at position) < 128) × (slice_get (v.sids_at position) (index_in n (v.sids_at position)) ≡ Some n)
index_of v laws position n within is_n =
    let place = place_in (v.sids_at position) n is_n in
    let at = index_at n (v.sids_at position) place.0 place.2 in
    let count = laws.sids_count position within in
    (omega (arith, at.0, count), at.1)

number_below : (v : LegsValue) → KeepsLaws v → (position : ℕ) (via : Option ℕ) (room : ℕ) → IsStateBy v position via room
    → number_by v position via room < 809089
number_below v laws position None room is = omega arith
number_below v laws position (Some n) room is =
    let index = index_of v laws position n is.0 is.1 in
    let few = room_few v position (Some n) room is in
    let near = position_few v laws position (Some n) room is in
    omega (arith, index.0, few, near)

number_same_by : (v : LegsValue) → KeepsLaws v → (s t : State) (a b : Option ℕ) → s.via ≡ a → t.via ≡ b → IsStateBy v s.position a s.room
    → IsStateBy v t.position b t.room
    → number_by v s.position a s.room ≡ number_by v t.position b t.room → s ≡ t
number_same_by v laws s t None None is_a is_b is_s is_t e =
    state_made s t (is_s.0 ∙ sym is_t.0) (is_a ∙ sym is_b) (is_s.1 ∙ sym is_t.1)
number_same_by v laws s t None (Some m) is_a is_b is_s is_t e = absurd (omega (arith, e))
number_same_by v laws s t (Some n) None is_a is_b is_s is_t e = absurd (omega (arith, e))
number_same_by v laws s t (Some n) (Some m) is_a is_b is_s is_t e =
    let one = index_of v laws s.position n is_s.0 is_s.1 in
    let two = index_of v laws t.position m is_t.0 is_t.1 in
    let parts =
    parts_same s.position t.position (index_in n (v.sids_at s.position)) (index_in m (v.sids_at t.position)) s.room t.room one.0 two.0
    (room_few v s.position (Some n) s.room is_s) (room_few v t.position (Some m) t.room is_t) e in
    let sids : n ≡ m =
    same_Some n m
    (sym one.1 ∙ ap (λ (x : ℕ). slice_get (v.sids_at x) (index_in n (v.sids_at s.position))) parts.0
    ∙ ap (slice_get (v.sids_at t.position)) parts.1 ∙ two.1) in
    state_made s t parts.0 (is_a ∙ ap (λ (x : ℕ). Some x) sids ∙ sym is_b) parts.2

number_same : (v : LegsValue) → KeepsLaws v → (s t : State) → IsState v s → IsState v t → number_of v s ≡ number_of v t → s ≡ t
number_same v laws s t is_s is_t e = number_same_by v laws s t s.via t.via refl refl is_s is_t e

-- ---- a listing is short

any_below : {X : Type 0} (f : X → ℕ) (xs : List X) (q n : ℕ) → ((i : ℕ) (x : X) → slice_get xs i ≡ Some x → f x < n)
    → list_any (eqb q) (map f xs) ≡ true
    → q < n
any_below f [] q n below h = absurd (false≢true h)
any_below f (x ∷ xs) q n below h =
    elim (or_cases (eqb q (f x)) (list_any (eqb q) (map f xs)) h) as (λ w. q < n) [
      | inl here ↦ let same : q ≡ f x = eqb-true q (f x) here in omega (arith, same, below 0 x refl)
      | inr rest ↦ any_below f xs q n (λ i y e. below (suc i) y e) rest
    ]

any_at : {X : Type 0} (f : X → ℕ) (xs : List X) (i q : ℕ) (x : X) → slice_get xs i ≡ Some x → f x ≡ q
    → list_any (eqb q) (map f xs) ≡ true
any_at f [] i q x e h = absurd (none-some x e)
any_at f (y ∷ ys) zero q x e h =
    or_left (eqb q (f y)) (list_any (eqb q) (map f ys)) (eq-eqb q (f y) (sym h ∙ ap f (sym (same_Some y x e))))
any_at f (y ∷ ys) (suc i) q x e h = or_right (eqb q (f y)) (list_any (eqb q) (map f ys)) (any_at f ys i q x e h)

no_potential : Potential
no_potential = record { state = record { position = 0; via = None; room = 0 }; cost = record { containers = 0; sids = 0; hops = 0 } }

contained : (qs : List Potential) (i : ℕ) (d : Potential) → i < length qs → Contains qs (get_or qs i d)
contained qs i d h = (i, h, same_default qs i (get_or qs i d) d h)
  where
    same_default : (xs : List Potential) (i : ℕ) (a b : Potential) → i < length xs → get_or xs i a ≡ get_or xs i b
    same_default [] i a b h = absurd (omega (arith, h))
    same_default (x ∷ xs) zero a b h = refl
    same_default (x ∷ xs) (suc i) a b h = same_default xs i a b (omega (arith, h))

module _ (v : LegsValue) (laws : KeepsLaws v) (qs : List Potential) (is : IsListing v qs) where
  numbers : List ℕ
  numbers = map (λ (q : Potential). number_of v q.state) qs

  state_at : (i : ℕ) → i < length qs → IsState v (get_or qs i no_potential).state
  state_at i h = (is.exact (get_or qs i no_potential) (contained qs i no_potential h)).0

  apart : (i j d : ℕ) → i < j → j < length numbers → eqb (get_or numbers i d) (get_or numbers j d) ≡ false
  unfolding numbers
  apart i j d h k =
      let size = length-map qs (λ (q : Potential). number_of v q.state) in
      let low : i < length qs = omega (arith, h, k, size) in
      let high : j < length qs = omega (arith, k, size) in
      let s = (get_or qs i no_potential).state in
      let t = (get_or qs j no_potential).state in
      let one = get_or-map (λ (q : Potential). number_of v q.state) qs i no_potential d low in
      let two = get_or-map (λ (q : Potential). number_of v q.state) qs j no_potential d high in
      ne_eqb (get_or numbers i d) (get_or numbers j d) (λ e.
      let same : s ≡ t = number_same v laws s t (state_at i low) (state_at j high) (sym one ∙ e ∙ two) in
      let before : IsBefore v s t = is.order i j no_potential h high in
      false≢true (sym (lex_itself (state_key v t)) ∙ ap (λ (x : State). lex_before (state_key v x) (state_key v t)) (sym same) ∙ before))

  listing_short : length qs ≤ 809089
  unfolding numbers
  listing_short =
      let size = length-map qs (λ (q : Potential). number_of v q.state) in
      let few : length numbers ≤ 809089 =
      length-le_from_distinct_below numbers 809089 (IsDistinct-from_apart eqb numbers apart) (λ q h.
      any_below (λ (p : Potential). number_of v p.state) qs q 809089
      (λ i p e.
      let s = p.state in
      let exact = is.exact p (i, slice_get_within qs i p e, same_at qs i p e) in
      number_below v laws s.position s.via s.room exact.0) h) in
      omega (arith, few, size)
    where
      same_at : (xs : List Potential) (i : ℕ) (p : Potential) → slice_get xs i ≡ Some p → get_or xs i p ≡ p
      same_at [] i p e = absurd (none-some p e)
      same_at (x ∷ xs) zero p e = same_Some x p e
      same_at (x ∷ xs) (suc i) p e = same_at xs i p e

-- ---- what is left of a least path is one

under_left : (e left : Cost) (o : Option Cost) → Under (Some (plus e left)) (option_map (plus e) o) → Under (Some left) o
under_left e left None h = tt
under_left e left (Some d) h =
    record {
      containers = omega (arith, h.containers);
      sids = λ same. omega (arith, h.sids (omega (arith, same)));
      hops = λ same also. omega (arith, h.hops (omega (arith, same)) (omega (arith, also)));
    }

tail_least : (v : LegsValue) (s : State) (m n : Move) (more : List Move) (c : Cost) → IsLeast v s (Some c)
    → (on : Onward v s m (n ∷ more) c)
    → IsLeast v on.to.to (Some on.left)
tail_least v s m n more c least on = record { attains = (n ∷ more, on.cost); least = below }
  where
    below : (others : List Move) → Under (Some on.left) (cost_of v on.to.to others)
    below [] = tt
    below (o ∷ os) =
        under_left on.to.cost on.left (cost_of v on.to.to (o ∷ os))
        (subst (λ (x : Cost). Under (Some x) (option_map (plus on.to.cost) (cost_of v on.to.to (o ∷ os)))) (sym on.sum)
        (subst (λ (x : Option Edge). Under (Some c) (behind x (λ t. cost_of v t (o ∷ os)))) on.edge (least.least (m ∷ o ∷ os))))

least_same : (v : LegsValue) (s : State) (c d : Cost) → IsLeast v s (Some c) → IsLeast v s (Some d) → c ≡ d
least_same v s c d h k =
    let below : AtMost c d = subst (λ (o : Option Cost). Under (Some c) o) k.attains.1 (h.least k.attains.0) in
    let above : AtMost d c = subst (λ (o : Option Cost). Under (Some d) o) h.attains.1 (k.least h.attains.0) in
    at_most_both c d below above

-- ---- numbers of costs, which a move raises by at most 1000

record IsNumber (v : LegsValue) (f : Cost → ℕ) : Type 0 where
  adds : (a b : Cost) → f (plus a b) ≡ f a + f b
  small : (stays : Bool) (hops : ℕ) → hops ≤ 1000 → f (move_cost v.sid_cost stays hops) ≤ 1000

-- a state whose least cost has a number within a part
record Stands (v : LegsValue) (f : Cost → ℕ) (part : ℕ) : Type 0 where
  state : State
  cost : Cost
  is_state : IsState v state
  least : IsLeast v state (Some cost)
  at : f cost / 1001 ≡ part

module _ (v : LegsValue) (laws : KeepsLaws v) (f : Cost → ℕ) (is_number : IsNumber v f) where
  walk : (s : State) (ms : List Move) (c : Cost) (part : ℕ) → IsState v s → IsLeast v s (Some c) → cost_of v s ms ≡ Some c
      → 1001 * part ≤ f c
      → Stands v f part
  walk s [] c part is least h low = absurd (none-some c h)
  walk s (m ∷ []) c part is least h low =
      let parts = last_parts v s m c h in
      let few = (laws.finish s.position s.via m.sid parts.hops parts.finish_is).hops in
      let top : f c ≤ 1000 = subst (λ (x : Cost). f x ≤ 1000) parts.is (is_number.small m.stays parts.hops few) in
      record { state = s; cost = c; is_state = is; least = least; at = omega (arith, low, top) }
  walk s (m ∷ n ∷ more) c part is least h low =
      elim (cases_lt (f c) (1001 * (part + 1))) as (λ w. Stands v f part) [
        | inl less ↦ record { state = s; cost = c; is_state = is; least = least; at = omega (arith, low, less) }
        | inr over ↦
            let on = onward v s m n more c h in
            let parts = edge_parts v s m on.to on.edge in
            let few = (laws.leg s.position s.via m.sid parts.leg parts.leg_is).hops in
            let top : f on.to.cost ≤ 1000 =
            subst (λ (x : Edge). f x.cost ≤ 1000) parts.is (is_number.small m.stays parts.leg.hops few) in
            let sum : f on.to.cost + f on.left ≡ f c = sym (is_number.adds on.to.cost on.left) ∙ ap f on.sum in
            walk on.to.to (n ∷ more) on.left part (edge_state v laws s m on.to is on.edge) (tail_least v s m n more c least on) on.cost
            (omega (arith, over, top, sum))
      ]

  number_few : (qs : List Potential) → IsListing v qs → (q : Potential) → Contains qs q → f q.cost < 2 ^ 32
  number_few qs is q among =
      let exact = is.exact q among in
      let part_of : Potential → ℕ = λ p. f p.cost / 1001 in
      let size = le-length_from_below (map part_of qs) (f q.cost / 1001 + 1) each in
      let same = length-map qs part_of in
      let few = listing_short v laws qs is in
      omega (arith, size, same, few)
    where
      each : (part : ℕ) → part < f q.cost / 1001 + 1 → list_any (eqb part) (map (λ (p : Potential). f p.cost / 1001) qs) ≡ true
      each part h =
          let exact = is.exact q among in
          let low : 1001 * part ≤ f q.cost = omega (arith, h) in
          let there = walk q.state exact.1.attains.0 q.cost part exact.0 exact.1 exact.1.attains.1 low in
          let listed = is.listed there.state there.least.attains.0 there.cost there.is_state there.least.attains.1 in
          let p : Potential = record { state = there.state; cost = listed.0 } in
          let same : listed.0 ≡ there.cost = least_same v there.state listed.0 there.cost (is.exact p listed.1).1 there.least in
          let here : slice_get qs listed.1.0 ≡ Some p =
          slice_get-get_or qs listed.1.0 p listed.1.1 ∙ ap (λ (x : Potential). Some x) listed.1.2 in
          any_at (λ (x : Potential). f x.cost / 1001) qs listed.1.0 part p here (ap (λ (x : Cost). f x / 1001) same ∙ there.at)

cost_one : (sids : ℕ) (stays : Bool) (hops : ℕ) → (move_cost sids stays hops).containers ≤ 1000
cost_one sids true hops = omega arith
cost_one sids false hops = omega arith

-- the numbers of a listing's costs have 32 bits
pub containers_few : (v : LegsValue) → KeepsLaws v → (qs : List Potential) → IsListing v qs → (q : Potential) → Contains qs q
    → q.cost.containers < 2 ^ 32
containers_few v laws qs is q among =
    number_few v laws (λ (c : Cost). c.containers) (record {
      adds = λ a b. refl;
      small = λ stays hops h. cost_one v.sid_cost stays hops;
    }) qs is q among

sids_few : (v : LegsValue) → KeepsLaws v → (qs : List Potential) → IsListing v qs → (q : Potential) → Contains qs q
    → q.cost.sids < 2 ^ 32
sids_few v laws qs is q among =
    number_few v laws (λ (c : Cost). c.sids) (record {
      adds = λ a b. refl;
      small = λ stays hops h. omega (arith, laws.sid_cost);
    }) qs is q among

-- where a SID costs nothing, no cost of a listing has SIDs
sids_none : (v : LegsValue) (qs : List Potential) → IsListing v qs → (q : Potential) → Contains qs q → v.sid_cost ≡ 0
    → q.cost.sids ≡ 0
sids_none v qs is q among free =
    let path = (is.exact q among).1.attains in
    let sids = (split_of v q.state path.0 q.cost path.1).sids in
    let none : v.sid_cost * length path.0 ≡ 0 * length path.0 = ap (λ (x : ℕ). x * length path.0) free in
    omega (arith, sids, none)

-- the SIDs of a listing's costs, as the form has them
shown_by : (free : Bool) (sid_cost sids : ℕ) → (sid_cost == 0) ≡ free → (sid_cost ≡ 0 → sids ≡ 0) → sids < 2 ^ 32
    → HasSids (cond free First Second) sids
shown_by true sid_cost sids e none few = none (eqb-true sid_cost 0 e)
shown_by false sid_cost sids e none few = few

pub sids_shown : (v : LegsValue) → KeepsLaws v → (qs : List Potential) → IsListing v qs → (q : Potential) → Contains qs q
    → HasSids (form_of v.sid_cost) q.cost.sids
sids_shown v laws qs is q among =
    shown_by (v.sid_cost == 0) v.sid_cost q.cost.sids refl (sids_none v qs is q among) (sids_few v laws qs is q among)

pub hops_few : (v : LegsValue) → KeepsLaws v → (qs : List Potential) → IsListing v qs → (q : Potential) → Contains qs q
    → q.cost.hops < 2 ^ 32
hops_few v laws qs is q among =
    number_few v laws (λ (c : Cost). c.hops) (record { adds = λ a b. refl; small = λ stays hops h. h }) qs is q among
