-- The order of states tells any two of them apart.
use Rattle.std.proofs.Common.{◌≡◌, ℕ, zero, suc, ◌<◌, ◌≤◌, inl, inr, true, false, List, [], ◌∷◌, Option, Some, None, slice_get, Contains, refl, sym, ◌∙◌, ap, subst, arith}
use Rattle.std.proofs.lemmas.Bool.{false≢true, and_parts, cases_order}
use Rattle.std.proofs.lemmas.Option.{none-some, same_Some}
use Rattle.list_pack.specs.declared.types.State.{State}
use Rattle.list_pack.specs.ListOrder.{lex_before}
use Rattle.list_pack.specs.LegsValue.{LegsValue}
use Rattle.list_pack.specs.LegsValueTerms.{KeepsLaws, sid_before, sid_key, ascends}
use Rattle.list_pack.specs.Costs.{IsState, IsStateBy}
use Rattle.list_pack.specs.Least.{state_key, state_key_by}
use Rattle.list_pack.proofs.ListOrders.{lex_itself, lex_trans, lex_same}
use Rattle.list_certificate.proofs.MovesPassing.{place_in}

-- a SID of a position is before those that are listed after it
rises : (v : LegsValue) (n : ℕ) (xs : List ℕ) (j m : ℕ) → ascends v (n ∷ xs) ≡ true → slice_get xs j ≡ Some m → sid_before v n m ≡ true
rises v n [] j m h e = absurd (none-some m e)
rises v n (x ∷ xs) zero m h e =
    subst (λ (y : ℕ). sid_before v n y ≡ true) (same_Some x m e) (and_parts (sid_before v n x) (ascends v (x ∷ xs)) h).0
rises v n (x ∷ xs) (suc j) m h e =
    let parts = and_parts (sid_before v n x) (ascends v (x ∷ xs)) h in
    lex_trans (sid_key v n) (sid_key v x) (sid_key v m) parts.0 (rises v x xs j m parts.1 e)

pub sids_rise : (v : LegsValue) (xs : List ℕ) (i j n m : ℕ) → ascends v xs ≡ true → i < j → slice_get xs i ≡ Some n
    → slice_get xs j ≡ Some m
    → sid_before v n m ≡ true
sids_rise v [] i j n m h l e f = absurd (none-some n e)
sids_rise v (x ∷ xs) zero zero n m h l e f = absurd (omega (arith, l))
sids_rise v (x ∷ xs) zero (suc j) n m h l e f =
    subst (λ (y : ℕ). sid_before v y m ≡ true) (same_Some x n e) (rises v x xs j m h f)
sids_rise v (x ∷ xs) (suc i) zero n m h l e f = absurd (omega (arith, l))
sids_rise v (x ∷ []) (suc i) (suc j) n m h l e f = absurd (none-some n e)
sids_rise v (x ∷ y ∷ ys) (suc i) (suc j) n m h l e f =
    sids_rise v (y ∷ ys) i j n m (and_parts (sid_before v x y) (ascends v (y ∷ ys)) h).1 (omega (arith, l)) e f

not_before_same : (xs ys : List ℕ) → xs ≡ ys → lex_before xs ys ≡ true → ⊥
not_before_same xs ys e h =
    false≢true (sym (lex_itself ys) ∙ ap (λ (zs : List ℕ). lex_before zs ys) (sym e) ∙ h)

-- two SIDs of a position with one prefix at one node are one
pub sid_same : (v : LegsValue) → KeepsLaws v → (position n m : ℕ) → position ≤ v.steps → Contains (v.sids_at position) n
    → Contains (v.sids_at position) m
    → sid_key v n ≡ sid_key v m → n ≡ m
sid_same v laws position n m within is_n is_m e =
    let a = place_in (v.sids_at position) n is_n in
    let b = place_in (v.sids_at position) m is_m in
    let order = laws.sids_order position within in
    elim (cases_order a.0 b.0) as (λ w. n ≡ m) [
      | inl same ↦ same_Some n m (sym a.2 ∙ ap (slice_get (v.sids_at position)) same ∙ b.2)
      | inr o ↦
          elim o as (λ w. n ≡ m) [
            | inl less ↦ absurd (not_before_same (sid_key v n) (sid_key v m) e
                (sids_rise v (v.sids_at position) a.0 b.0 n m order less a.2 b.2))
            | inr more ↦
                absurd (not_before_same (sid_key v m) (sid_key v n) (sym e)
                (sids_rise v (v.sids_at position) b.0 a.0 m n order more b.2 a.2))
          ]
    ]

pub state_made : (s t : State) → s.position ≡ t.position → s.via ≡ t.via → s.room ≡ t.room → s ≡ t
state_made s t positions vias rooms =
    let one : (x : ℕ) → State = λ x. record { position = x; via = s.via; room = s.room } in
    let two : (x : Option ℕ) → State = λ x. record { position = t.position; via = x; room = s.room } in
    let three : (x : ℕ) → State = λ x. record { position = t.position; via = t.via; room = x } in
    ap one positions ∙ ap two vias ∙ ap three rooms

key_same : (v : LegsValue) → KeepsLaws v → (s t : State) (a b : Option ℕ) → s.via ≡ a → t.via ≡ b → IsStateBy v s.position a s.room
    → IsStateBy v t.position b t.room
    → state_key_by v s.position a s.room ≡ state_key_by v t.position b t.room → s ≡ t
key_same v laws s t None None is_a is_b is_s is_t e = state_made s t (is_s.0 ∙ sym is_t.0) (is_a ∙ sym is_b) (is_s.1 ∙ sym is_t.1)
key_same v laws s t None (Some m) is_a is_b is_s is_t e = absurd (cc)
key_same v laws s t (Some n) None is_a is_b is_s is_t e = absurd (cc)
key_same v laws s t (Some n) (Some m) is_a is_b is_s is_t e =
    let positions : s.position ≡ t.position = cc in
    let rooms : s.room ≡ t.room = cc in
    let values : (v.shape n).prefix.value ≡ (v.shape m).prefix.value = cc in
    let lens : (v.shape n).prefix.len ≡ (v.shape m).prefix.len = cc in
    let nodes : v.node n ≡ v.node m = cc in
    let keys : sid_key v n ≡ sid_key v m = cc in
    let sids : n ≡ m =
    sid_same v laws s.position n m is_s.0 is_s.1 (subst (λ (x : ℕ). Contains (v.sids_at x) m) (sym positions) is_t.1) keys in
    state_made s t positions (is_a ∙ ap (λ (x : ℕ). Some x) sids ∙ sym is_b) rooms

-- of two states of which none is before the other
pub states_same : (v : LegsValue) → KeepsLaws v → (s t : State) → IsState v s → IsState v t
    → lex_before (state_key v s) (state_key v t) ≡ false
    → lex_before (state_key v t) (state_key v s) ≡ false → s ≡ t
states_same v laws s t is_s is_t h k = key_same v laws s t s.via t.via refl refl is_s is_t (lex_same (state_key v s) (state_key v t) h k)
