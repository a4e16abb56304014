-- The potential of a state by the lines, and the order of lines.
use Rattle.std.proofs.Common.{◌≡◌, ℕ, zero, suc, ◌+◌, ◌<◌, ◌≤◌, inl, inr, Bool, true, false, cond, ◌&&◌, ◌==◌, List, [], ◌∷◌, length, Option, Some, None, slice_get, get_or, drop, refl, sym, ◌∙◌, ap, subst, arith, eqb-true}
use Rattle.std.proofs.lemmas.Bool.{cases_lt, false≢true, and_parts, and_from, eq-eqb, false_from_ne_true}
use Rattle.std.proofs.lemmas.Option.{none-some, same_Some, slice_get_within, slice_get-get_or, get_or_from_slice_get}
use Rattle.list_pack.specs.declared.types.Cost.{Cost}
use Rattle.list_pack.specs.declared.types.State.{State}
use Rattle.list_pack.specs.ListOrder.{lex_before}
use Rattle.list_pack.specs.LegsValue.{LegsValue}
use Rattle.list_pack.specs.Least.{IsBefore, state_key_by}
use Rattle.list_certificate.specs.declared.certificate_types.PotentialLine.{PotentialLine}
use Rattle.list_certificate.specs.Certs.{same_via, same_state, potential_at}
use Rattle.list_certificate.specs.Tests.{AreSorted, place_key, place_key_by, IsBehind, Splits}
use Rattle.list_pack.proofs.ListOrders.{lex_itself, lex_not_both, lex_longer, lex_lower, lex_higher}

-- what an index past the lines would give
abbrev pub no_line : PotentialLine
no_line = record {
  potential = record { state = record { position = 0; via = None; room = 0 }; cost = record { containers = 0; sids = 0; hops = 0 } };
  line = 0;
}

pub line_at : (lines : List PotentialLine) (k : ℕ) → k < length lines → slice_get lines k ≡ Some (get_or lines k no_line)
line_at lines k h = slice_get-get_or lines k no_line h

-- items of the rest of a list
pub rest_get : {X : Type 0} (xs : List X) (n i : ℕ) → slice_get (drop n xs) i ≡ slice_get xs (n + i)
rest_get [] zero i = refl
rest_get [] (suc n) i = refl
rest_get (x ∷ xs) zero i = ap (slice_get (x ∷ xs)) (omega arith)
rest_get (x ∷ xs) (suc n) i = let e : suc (n + i) ≡ suc n + i = omega arith in rest_get xs n i ∙ ap (slice_get (x ∷ xs)) e

pub rest_at : (lines rest : List PotentialLine) (n k : ℕ) → rest ≡ drop n lines → k < length rest
    → slice_get lines (n + k) ≡ Some (get_or rest k no_line)
rest_at lines rest n k e h = sym (rest_get lines n k) ∙ ap (λ (xs : List PotentialLine). slice_get xs k) (sym e) ∙ line_at rest k h

via_itself : (a : Option ℕ) → same_via a a ≡ true
via_itself None = refl
via_itself (Some n) = eq-eqb n n refl

via_same : (a b : Option ℕ) → same_via a b ≡ true → a ≡ b
via_same None None h = refl
via_same None (Some n) h = absurd (false≢true h)
via_same (Some n) None h = absurd (false≢true h)
via_same (Some n) (Some m) h = ap (λ (x : ℕ). Some x) (eqb-true n m h)

pub state_same : (s t : State) → same_state s t ≡ true → s ≡ t
state_same s t h =
    let parts = and_parts (s.position == t.position) (same_via s.via t.via && (s.room == t.room)) h in
    let more = and_parts (same_via s.via t.via) (s.room == t.room) parts.1 in
    let positions : s.position ≡ t.position = eqb-true s.position t.position parts.0 in
    let vias : s.via ≡ t.via = via_same s.via t.via more.0 in
    let rooms : s.room ≡ t.room = eqb-true s.room t.room more.1 in
    let one : (x : ℕ) → State = λ x. record { position = x; via = s.via; room = s.room } in
    let two : (x : Option ℕ) → State = λ x. record { position = t.position; via = x; room = s.room } in
    let three : (x : ℕ) → State = λ x. record { position = t.position; via = t.via; room = x } in
    ap one positions ∙ ap two vias ∙ ap three rooms

pub same_state_law : (s t : State) → s ≡ t → same_state s t ≡ true
same_state_law s t e =
    subst (λ (x : State). same_state s x ≡ true) e
    (and_from (s.position == s.position) (same_via s.via s.via && (s.room == s.room)) (eq-eqb s.position s.position refl)
    (and_from (same_via s.via s.via) (s.room == s.room) (via_itself s.via) (eq-eqb s.room s.room refl)))

pub state_other : (s t : State) → (s ≡ t → ⊥) → same_state s t ≡ false
state_other s t h = false_from_ne_true (same_state s t) (λ e. h (state_same s t e))

-- the line that lists a state
pub record Found (lines : List PotentialLine) (s : State) (c : Cost) : Type 0 where
  pub place : ℕ
  pub line : PotentialLine
  pub here : slice_get lines place ≡ Some line
  pub state_is : line.potential.state ≡ s
  pub cost_is : line.potential.cost ≡ c

found_by : (l : PotentialLine) (ls : List PotentialLine) (s : State) (c : Cost) → (potential_at ls s ≡ Some c → Found ls s c) → (b : Bool)
    → same_state l.potential.state s ≡ b → cond b (Some l.potential.cost) (potential_at ls s) ≡ Some c → Found (l ∷ ls) s c
found_by l ls s c rest true e k =
    record { place = 0; line = l; here = refl; state_is = state_same l.potential.state s e; cost_is = same_Some l.potential.cost c k }
found_by l ls s c rest false e k =
    let more = rest k in
    record { place = suc more.place; line = more.line; here = more.here; state_is = more.state_is; cost_is = more.cost_is }

pub found : (lines : List PotentialLine) (s : State) (c : Cost) → potential_at lines s ≡ Some c → Found lines s c
found [] s c h = absurd (none-some c h)
found (l ∷ ls) s c h = found_by l ls s c (found ls s c) (same_state l.potential.state s) refl h

-- no line lists a state
abbrev pub NotIn : List PotentialLine → State → Type 0
NotIn lines s = (i : ℕ) (l : PotentialLine) → slice_get lines i ≡ Some l → l.potential.state ≡ s → ⊥

pub none_listed : (lines : List PotentialLine) (s : State) → NotIn lines s → potential_at lines s ≡ None
none_listed [] s h = refl
none_listed (l ∷ ls) s h =
    ap (λ (b : Bool). cond b (Some l.potential.cost) (potential_at ls s)) (state_other l.potential.state s (h 0 l refl))
    ∙ none_listed ls s (λ i m e. h (suc i) m e)

-- the first line that lists a state
pub first_listed : (lines : List PotentialLine) (s : State) (i : ℕ) (l : PotentialLine) → slice_get lines i ≡ Some l
    → l.potential.state ≡ s
    → ((j : ℕ) (m : PotentialLine) → slice_get lines j ≡ Some m → j < i → m.potential.state ≡ s → ⊥)
    → potential_at lines s ≡ Some l.potential.cost
first_listed [] s i l h e k = absurd (none-some l h)
first_listed (x ∷ xs) s zero l h e k =
    let is : x ≡ l = same_Some x l h in
    ap (λ (b : Bool). cond b (Some x.potential.cost) (potential_at xs s))
    (same_state_law x.potential.state s (ap (λ (y : PotentialLine). y.potential.state) is ∙ e))
    ∙ ap (λ (y : PotentialLine). Some y.potential.cost) is
first_listed (x ∷ xs) s (suc i) l h e k =
    ap (λ (b : Bool). cond b (Some x.potential.cost) (potential_at xs s)) (state_other x.potential.state s (k 0 x refl (omega arith)))
    ∙ first_listed xs s i l h e (λ j m f less. k (suc j) m f (omega (arith, less)))

not_by : (x : PotentialLine) (xs : List PotentialLine) (s : State) → (potential_at xs s ≡ None → NotIn xs s) → (b : Bool)
    → same_state x.potential.state s ≡ b → cond b (Some x.potential.cost) (potential_at xs s) ≡ None → NotIn (x ∷ xs) s
not_by x xs s rest true g k i l e f = none-some x.potential.cost (sym k)
not_by x xs s rest false g k zero l e f =
    let is : x ≡ l = same_Some x l e in
    false≢true (sym g ∙ same_state_law x.potential.state s (ap (λ (y : PotentialLine). y.potential.state) is ∙ f))
not_by x xs s rest false g k (suc i) l e f = rest k i l e f

pub not_listed : (lines : List PotentialLine) (s : State) → potential_at lines s ≡ None → NotIn lines s
not_listed [] s h i l e f = none-some l e
not_listed (x ∷ xs) s h i l e f = not_by x xs s (not_listed xs s) (same_state x.potential.state s) refl h i l e f

-- lines in order
pub line_order : (v : LegsValue) (lines : List PotentialLine) (i j : ℕ) (l m : PotentialLine) → AreSorted v lines
    → slice_get lines i ≡ Some l
    → slice_get lines j ≡ Some m → i < j → IsBefore v l.potential.state m.potential.state
line_order v lines i j l m sorted e f h =
    let order = sorted.order i j l h (slice_get_within lines j m f) in
    let one : get_or lines i l ≡ l = get_or_from_slice_get lines i l l e in
    let two : get_or lines j l ≡ m = get_or_from_slice_get lines j m l f in
    subst (λ (x : PotentialLine). IsBefore v x.potential.state m.potential.state) one
    (subst (λ (x : PotentialLine). IsBefore v (get_or lines i l).potential.state x.potential.state) two order)

-- places rise with the order of states
pub nothing_before : (xs : List ℕ) → lex_before xs [] ≡ false
nothing_before [] = refl
nothing_before (x ∷ xs) = refl

place_by : (v : LegsValue) (p q : ℕ) (a b : Option ℕ) (r k : ℕ) → lex_before (state_key_by v p a r) (state_key_by v q b k) ≡ true
    → lex_before (place_key_by v q b) (place_key_by v p a) ≡ false
place_by v p q None None r k h = refl
place_by v p q None (Some m) r k h = refl
place_by v p q (Some n) None r k h = absurd (false≢true (sym (nothing_before (state_key_by v p (Some n) r)) ∙ h))
place_by v p q (Some n) (Some m) r k h =
    let xs : List ℕ = q ∷ (v.shape m).prefix.value ∷ (v.shape m).prefix.len ∷ [] in
    let ys : List ℕ = p ∷ (v.shape n).prefix.value ∷ (v.shape n).prefix.len ∷ [] in
    false_from_ne_true (lex_before xs ys) (λ e.
    false≢true (sym (lex_not_both (state_key_by v p (Some n) r) (state_key_by v q (Some m) k) h)
    ∙ lex_longer xs ys (v.node m ∷ k ∷ []) (v.node n ∷ r ∷ []) refl e))

pub place_rises : (v : LegsValue) (s t : State) → IsBefore v s t → lex_before (place_key v t) (place_key v s) ≡ false
place_rises v s t h = place_by v s.position t.position s.via t.via s.room t.room h

-- up to a line, and from it on
lines_rise : (v : LegsValue) (lines : List PotentialLine) (i j : ℕ) (l m : PotentialLine) → AreSorted v lines → slice_get lines i ≡ Some l
    → slice_get lines j ≡ Some m → i ≤ j → lex_before (place_key v m.potential.state) (place_key v l.potential.state) ≡ false
lines_rise v lines i j l m sorted e f h =
    elim (cases_lt i j) as (λ w. lex_before (place_key v m.potential.state) (place_key v l.potential.state) ≡ false) [
      | inl less ↦ place_rises v l.potential.state m.potential.state (line_order v lines i j l m sorted e f less)
      | inr more ↦
          let same : i ≡ j = omega (arith, h, more) in
          let is : l ≡ m = same_Some l m (sym e ∙ ap (slice_get lines) same ∙ f) in
          subst (λ (x : PotentialLine). lex_before (place_key v x.potential.state) (place_key v l.potential.state) ≡ false) is
          (lex_itself (place_key v l.potential.state))
    ]

pub splits_low : (v : LegsValue) (lines : List PotentialLine) (key : List ℕ) (low high i : ℕ) (l : PotentialLine) → AreSorted v lines
    → slice_get lines i ≡ Some l
    → IsBehind v key l true → Splits v lines key low high → Splits v lines key (i + 1) high
splits_low v lines key low high i l sorted e h so =
    record {
      before = λ j m f less.
          lex_lower (place_key v m.potential.state) (place_key v l.potential.state) key
          (lines_rise v lines j i m l sorted f e (omega (arith, less))) h;
      behind = so.behind;
    }

pub splits_high : (v : LegsValue) (lines : List PotentialLine) (key : List ℕ) (low high i : ℕ) (l : PotentialLine) → AreSorted v lines
    → slice_get lines i ≡ Some l
    → IsBehind v key l false → Splits v lines key low high → Splits v lines key low i
splits_high v lines key low high i l sorted e h so =
    record {
      before = so.before;
      behind = λ j m f more.
          lex_higher (place_key v l.potential.state) (place_key v m.potential.state) key
          (lines_rise v lines i j l m sorted e f more) h;
    }

-- what stands before the first lines of a place lists none of its states
pub before_place : (v : LegsValue) (lines : List PotentialLine) (s : State) (key : List ℕ) (first : ℕ) → key ≡ place_key v s
    → Splits v lines key first first
    → (j : ℕ) (m : PotentialLine) → slice_get lines j ≡ Some m → j < first → m.potential.state ≡ s → ⊥
before_place v lines s key first e so j m f less is =
    false≢true (sym (lex_itself (place_key v s))
    ∙ ap (λ (x : State). lex_before (place_key v x) (place_key v s)) (sym is)
    ∙ ap (lex_before (place_key v m.potential.state)) (sym e)
    ∙ so.before j m f less)

-- after a line of a higher place no line lists the state
pub behind_place : (v : LegsValue) (lines : List PotentialLine) (s : State) (i : ℕ) (l : PotentialLine) → AreSorted v lines
    → slice_get lines i ≡ Some l
    → lex_before (place_key v s) (place_key v l.potential.state) ≡ true
    → (j : ℕ) (m : PotentialLine) → slice_get lines j ≡ Some m → i ≤ j → m.potential.state ≡ s → ⊥
behind_place v lines s i l sorted e h j m f more is =
    false≢true (sym (lines_rise v lines i j l m sorted e f more)
    ∙ ap (λ (x : State). lex_before (place_key v x) (place_key v l.potential.state)) is
    ∙ h)

-- lines up to one more don't list a state, where that line doesn't
pub scanned_more : (lines : List PotentialLine) (s : State) (k : ℕ) (l : PotentialLine) → slice_get lines k ≡ Some l
    → (l.potential.state ≡ s → ⊥)
    → ((j : ℕ) (m : PotentialLine) → slice_get lines j ≡ Some m → j < k → m.potential.state ≡ s → ⊥)
    → (j : ℕ) (m : PotentialLine) → slice_get lines j ≡ Some m → j < k + 1 → m.potential.state ≡ s → ⊥
scanned_more lines s k l e other so j m f h is =
    elim (cases_lt j k) as (λ w. ⊥) [
      | inl less ↦ so j m f less is
      | inr more ↦
          let same : k ≡ j = omega (arith, h, more) in
          let it : l ≡ m = same_Some l m (sym e ∙ ap (slice_get lines) same ∙ f) in
          other (ap (λ (x : PotentialLine). x.potential.state) it ∙ is)
    ]

pub scanned_up : (v : LegsValue) (lines : List PotentialLine) (s : State) (k : ℕ) (l : PotentialLine) → AreSorted v lines
    → slice_get lines k ≡ Some l
    → lex_before (place_key v s) (place_key v l.potential.state) ≡ true
    → ((j : ℕ) (m : PotentialLine) → slice_get lines j ≡ Some m → j < k → m.potential.state ≡ s → ⊥)
    → potential_at lines s ≡ None
scanned_up v lines s k l sorted e higher so =
    none_listed lines s (λ j m f is.
    elim (cases_lt j k) as (λ w. ⊥) [
      | inl less ↦ so j m f less is
      | inr more ↦ behind_place v lines s k l sorted e higher j m f more is
    ])
