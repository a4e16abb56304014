-- The states in order: by positions, the SIDs of a position, and the rooms of a SID.
use Rattle.std.proofs.Common.{◌≡◌, ℕ, zero, suc, ◌+◌, ◌<◌, ◌≤◌, inl, inr, true, List, [], ◌∷◌, length, Option, Some, None, slice_get, Contains, refl, sym, ◌∙◌, ap, subst, arith}
use Rattle.std.specs.Prelude.{IsSome, is_some}
use Rattle.std.proofs.lemmas.Bool.{cases_lt, false≢true, and_parts}
use Rattle.std.proofs.lemmas.Option.{none-some, same_Some}
use Rattle.list_pack.specs.declared.types.State.{State}
use Rattle.list_pack.specs.ListOrder.{lex_before}
use Rattle.list_pack.specs.LegsValue.{LegsValue}
use Rattle.list_pack.specs.LegsValueTerms.{KeepsLaws, sid_key, sid_before, ascends}
use Rattle.list_pack.specs.Costs.{start, IsState, IsStateBy}
use Rattle.list_pack.specs.Least.{IsBefore, IsGoodAt, state_key, state_key_by}
use Rattle.list_certificate.specs.declared.certificate_types.PotentialLine.{PotentialLine}
use Rattle.list_certificate.specs.Certs.{potential_at}
use Rattle.list_certificate.specs.Tests.{PassesUnlisted, FirstFailing, FirstFailure, LinesPass, OfSid, OfPosition, OfAll}
use Rattle.list_pack.proofs.ListOrders.{head_less, head_same, lex_longer, lex_not_both, lex_trans}
use Rattle.list_certificate.proofs.MovesPassing.{place_in}

-- SIDs in order
ascends_head : (v : LegsValue) (n : ℕ) (ms : List ℕ) → ascends v (n ∷ ms) ≡ true → (j m : ℕ) → slice_get ms j ≡ Some m
    → sid_before v n m ≡ true
ascends_head v n [] h j m e = absurd (none-some m e)
ascends_head v n (k ∷ ms) h zero m e =
    let parts = and_parts (sid_before v n k) (ascends v (k ∷ ms)) h in
    subst (λ (x : ℕ). sid_before v n x ≡ true) (same_Some k m e) parts.0
ascends_head v n (k ∷ ms) h (suc j) m e =
    let parts = and_parts (sid_before v n k) (ascends v (k ∷ ms)) h in
    lex_trans (sid_key v n) (sid_key v k) (sid_key v m) parts.0 (ascends_head v k ms parts.1 j m e)

ascends_rest : (v : LegsValue) (n : ℕ) (ms : List ℕ) → ascends v (n ∷ ms) ≡ true → ascends v ms ≡ true
ascends_rest v n [] h = refl
ascends_rest v n (k ∷ ms) h = (and_parts (sid_before v n k) (ascends v (k ∷ ms)) h).1

pub sids_rise : (v : LegsValue) (ms : List ℕ) → ascends v ms ≡ true → (i j n m : ℕ) → i < j → slice_get ms i ≡ Some n
    → slice_get ms j ≡ Some m
    → sid_before v n m ≡ true
sids_rise v [] h i j n m less e f = absurd (none-some n e)
sids_rise v (k ∷ ms) h zero zero n m less e f = absurd (omega (arith, less))
sids_rise v (k ∷ ms) h zero (suc j) n m less e f =
    subst (λ (x : ℕ). sid_before v x m ≡ true) (same_Some k n e) (ascends_head v k ms h j m f)
sids_rise v (k ∷ ms) h (suc i) zero n m less e f = absurd (omega (arith, less))
sids_rise v (k ∷ ms) h (suc i) (suc j) n m less e f =
    sids_rise v ms (ascends_rest v k ms h) i j n m (omega (arith, less)) e f

-- states of higher SIDs, positions and rooms are not before
pub sid_after : (v : LegsValue) (position n m r q : ℕ) → sid_before v n m ≡ true
    → lex_before (state_key_by v position (Some m) q) (state_key_by v position (Some n) r) ≡ true → ⊥
sid_after v position n m r q h k =
    let less : lex_before (state_key_by v position (Some n) r) (state_key_by v position (Some m) q) ≡ true =
    head_same position position ((v.shape n).prefix.value ∷ (v.shape n).prefix.len ∷ v.node n ∷ r ∷ [])
    ((v.shape m).prefix.value ∷ (v.shape m).prefix.len ∷ v.node m ∷ q ∷ []) refl
    (lex_longer (sid_key v n) (sid_key v m) (r ∷ []) (q ∷ []) refl h) in
    false≢true (sym (lex_not_both (state_key_by v position (Some n) r) (state_key_by v position (Some m) q) less) ∙ k)

pub position_after : (v : LegsValue) (p o n m r q : ℕ) → p < o
    → lex_before (state_key_by v o (Some m) q) (state_key_by v p (Some n) r) ≡ true → ⊥
position_after v p o n m r q h k =
    let less : lex_before (state_key_by v p (Some n) r) (state_key_by v o (Some m) q) ≡ true =
    head_less p o ((v.shape n).prefix.value ∷ (v.shape n).prefix.len ∷ v.node n ∷ r ∷ [])
    ((v.shape m).prefix.value ∷ (v.shape m).prefix.len ∷ v.node m ∷ q ∷ []) h in
    false≢true (sym (lex_not_both (state_key_by v p (Some n) r) (state_key_by v o (Some m) q) less) ∙ k)

module _ (v : LegsValue) (lines : List PotentialLine) where
  -- the first rooms of a SID
  abbrev pub RoomsPass : ℕ → ℕ → ℕ → Type 0
  RoomsPass position n count = (t : State) → IsState v t → OfSid position n t → t.room < count → PassesUnlisted v lines t

  -- the states of the first SIDs of a position
  abbrev pub SidsPass : ℕ → List ℕ → ℕ → Type 0
  SidsPass position sids count = (i n : ℕ) → i < count → slice_get sids i ≡ Some n → FirstFailure v lines (OfSid position n) None

  -- the start, and the states of the first positions
  abbrev pub PositionsPass : ℕ → Type 0
  PositionsPass count = (position : ℕ) → position < count → FirstFailure v lines (OfPosition position) None

module _ (v : LegsValue) (laws : KeepsLaws v) (lines : List PotentialLine) where
  pub rooms_more : (position n count : ℕ) → PassesUnlisted v lines (record { position = position; via = Some n; room = count })
      → RoomsPass v lines position n count
      → RoomsPass v lines position n (count + 1)
  rooms_more position n count here so t is_t of h =
      elim (cases_lt t.room count) as (λ w. PassesUnlisted v lines t) [
        | inl less ↦ so t is_t of less
        | inr more ↦
            let same : count ≡ t.room = omega (arith, h, more) in
            subst (PassesUnlisted v lines) (state_is t position n count of same) here
      ]
    where
      state_is : (t : State) (position n count : ℕ) → OfSid position n t → count ≡ t.room
          → ◌≡◌ {A = State} (record { position = position; via = Some n; room = count }) t
      state_is t position n count of e =
          ap (λ (x : ℕ). let y : State = record { position = x; via = Some n; room = count } in y) (sym of.0)
          ∙ ap (λ (x : Option ℕ). let y : State = record { position = t.position; via = x; room = count } in y) (sym of.1)
          ∙ ap (λ (x : ℕ). let y : State = record { position = t.position; via = t.via; room = x } in y) e

  state_of_sid : (t : State) (n : ℕ) → IsState v t → t.via ≡ Some n → IsStateBy v t.position (Some n) t.room
  state_of_sid t n is_t e = subst (λ (o : Option ℕ). IsStateBy v t.position o t.room) e is_t

  pub sids_more : (position : ℕ) (sids : List ℕ) (count n : ℕ) → slice_get sids count ≡ Some n
      → FirstFailure v lines (OfSid position n) None
      → SidsPass v lines position sids count → SidsPass v lines position sids (count + 1)
  sids_more position sids count n e here so i k h f =
      elim (cases_lt i count) as (λ w. FirstFailure v lines (OfSid position k) None) [
        | inl less ↦ so i k less f
        | inr more ↦
            let same : i ≡ count = omega (arith, h, more) in
            let is : n ≡ k = same_Some n k (sym e ∙ ap (slice_get sids) (sym same) ∙ f) in
            subst (λ (x : ℕ). FirstFailure v lines (OfSid position x) None) is here
      ]

  sid_found_by : (position : ℕ) (sids : List ℕ) (count n : ℕ) (s : State) → position ≤ v.steps → sids ≡ v.sids_at position
      → slice_get sids count ≡ Some n
      → FirstFailing v lines (OfSid position n) s
      → SidsPass v lines position sids count → (t : State) → IsState v t → t.position ≡ position → (o : Option ℕ) → t.via ≡ o → IsSome o
      → IsBefore v t s
      → PassesUnlisted v lines t
  sid_found_by position sids count n s within sids_are e found so t is_t at None f some before = absurd (false≢true some)
  sid_found_by position sids count n s within sids_are e found so t is_t at (Some k) f some before =
      let is = state_of_sid t k is_t f in
      let here : Contains sids k = subst (λ (xs : List ℕ). Contains xs k) (ap v.sids_at at ∙ sym sids_are) is.1 in
      let place = place_in sids k here in
      elim (cases_lt place.0 count) as (λ w. PassesUnlisted v lines t) [
        | inl less ↦ so place.0 k less place.2 t is_t (at, f)
        | inr more ↦
            elim (cases_lt count place.0) as (λ w. PassesUnlisted v lines t) [
              | inl above ↦
                  let order : ascends v sids ≡ true = ap (ascends v) sids_are ∙ laws.sids_order position within in
                  let rises = sids_rise v sids order count place.0 n k above e place.2 in
                  let moved : lex_before (state_key_by v position (Some k) t.room) (state_key_by v position (Some n) s.room) ≡ true =
                  ap (λ (o : Option ℕ). lex_before (state_key_by v position o t.room) (state_key_by v position (Some n) s.room)) (sym f)
                  ∙ ap (λ (x : ℕ). lex_before (state_key_by v x t.via t.room) (state_key_by v position (Some n) s.room)) (sym at)
                  ∙ ap (λ (o : Option ℕ). lex_before (state_key v t) (state_key_by v position o s.room)) (sym found.among.1)
                  ∙ ap (λ (x : ℕ). lex_before (state_key v t) (state_key_by v x s.via s.room)) (sym found.among.0)
                  ∙ before in
                  absurd (sid_after v position n k s.room t.room rises moved)
              | inr below ↦
                  let same : place.0 ≡ count = omega (arith, more, below) in
                  let is_n : k ≡ n = same_Some k n (sym place.2 ∙ ap (slice_get sids) same ∙ e) in
                  found.first t is_t (at, f ∙ ap (λ (x : ℕ). Some x) is_n) before
            ]
      ]

  pub sid_found : (position : ℕ) (sids : List ℕ) (count n : ℕ) (s : State) → position ≤ v.steps → sids ≡ v.sids_at position
      → slice_get sids count ≡ Some n
      → FirstFailing v lines (OfSid position n) s
      → SidsPass v lines position sids count → FirstFailing v lines (OfPosition position) s
  sid_found position sids count n s within sids_are e found so =
      record {
        is_state = found.is_state;
        among = (found.among.0, ap is_some found.among.1);
        fails = found.fails;
        first = λ t is_t of before.
            sid_found_by position sids count n s within sids_are e found so t is_t of.0 t.via refl of.1 before;
      }

  sids_all_by : (position : ℕ) (sids : List ℕ) (count : ℕ) → sids ≡ v.sids_at position → length sids ≤ count
      → SidsPass v lines position sids count
      → (t : State) → IsState v t → t.position ≡ position → (o : Option ℕ) → t.via ≡ o → IsSome o → PassesUnlisted v lines t
  sids_all_by position sids count sids_are h so t is_t at None f some = absurd (false≢true some)
  sids_all_by position sids count sids_are h so t is_t at (Some k) f some =
      let is = state_of_sid t k is_t f in
      let here : Contains sids k = subst (λ (xs : List ℕ). Contains xs k) (ap v.sids_at at ∙ sym sids_are) is.1 in
      let place = place_in sids k here in
      so place.0 k (omega (arith, place.1, h)) place.2 t is_t (at, f)

  pub sids_all : (position : ℕ) (sids : List ℕ) (count : ℕ) → sids ≡ v.sids_at position → length sids ≤ count
      → SidsPass v lines position sids count
      → FirstFailure v lines (OfPosition position) None
  sids_all position sids count sids_are h so t is_t of = sids_all_by position sids count sids_are h so t is_t of.0 t.via refl of.1

  start_is : (t : State) → IsState v t → t.via ≡ None → start ≡ t
  start_is t is_t e =
      let is = subst (λ (o : Option ℕ). IsStateBy v t.position o t.room) e is_t in
      ap (λ (x : ℕ). let y : State = record { position = x; via = None; room = 0 } in y) (sym is.0)
      ∙ ap (λ (x : Option ℕ). let y : State = record { position = t.position; via = x; room = 0 } in y) (sym e)
      ∙ ap (λ (x : ℕ). let y : State = record { position = t.position; via = t.via; room = x } in y) (sym is.1)

  position_found_by : (count : ℕ) (s : State) → PassesUnlisted v lines start → FirstFailing v lines (OfPosition count) s
      → PositionsPass v lines count
      → (t : State) → IsState v t → (o p : Option ℕ) → t.via ≡ o → s.via ≡ p → IsSome p → IsBefore v t s
      → PassesUnlisted v lines t
  position_found_by count s begin found so t is_t None p f g some before = subst (PassesUnlisted v lines) (start_is t is_t f) begin
  position_found_by count s begin found so t is_t (Some k) None f g some before = absurd (false≢true some)
  position_found_by count s begin found so t is_t (Some k) (Some n) f g some before =
      elim (cases_lt t.position count) as (λ w. PassesUnlisted v lines t) [
        | inl less ↦ so t.position less t is_t (refl, ap is_some f)
        | inr more ↦
            elim (cases_lt count t.position) as (λ w. PassesUnlisted v lines t) [
              | inl above ↦
                  let moved : lex_before (state_key_by v t.position (Some k) t.room) (state_key_by v count (Some n) s.room) ≡ true =
                  ap (λ (o : Option ℕ). lex_before (state_key_by v t.position o t.room) (state_key_by v count (Some n) s.room)) (sym f)
                  ∙ ap (λ (o : Option ℕ). lex_before (state_key v t) (state_key_by v count o s.room)) (sym g)
                  ∙ ap (λ (x : ℕ). lex_before (state_key v t) (state_key_by v x s.via s.room)) (sym found.among.0)
                  ∙ before in
                  absurd (position_after v count t.position n k s.room t.room above moved)
              | inr below ↦ found.first t is_t (omega (arith, more, below), ap is_some f) before
            ]
      ]

  pub position_found : (count : ℕ) (s : State) → PassesUnlisted v lines start → FirstFailing v lines (OfPosition count) s
      → PositionsPass v lines count
      → FirstFailing v lines OfAll s
  position_found count s begin found so =
      record {
        is_state = found.is_state;
        among = tt;
        fails = found.fails;
        first = λ t is_t of before. position_found_by count s begin found so t is_t t.via s.via refl refl found.among.1 before;
      }

-- ---- lines

-- one line more whose state passes
pub line_more : (v : LegsValue) (lines : List PotentialLine) (count : ℕ) (line : PotentialLine) → slice_get lines count ≡ Some line
    → IsGoodAt v (potential_at lines) line.potential.state → LinesPass v lines count → LinesPass v lines (count + 1)
line_more v lines count line here good so i l less e =
    elim (cases_lt i count) as (λ w. IsGoodAt v (potential_at lines) l.potential.state) [
      | inl low ↦ so i l low e
      | inr high ↦
          let same : i ≡ count = omega (arith, less, high) in
          subst (λ (x : PotentialLine). IsGoodAt v (potential_at lines) x.potential.state)
          (same_Some line l (sym here ∙ ap (slice_get lines) (sym same) ∙ e)) good
    ]
