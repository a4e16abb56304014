-- The cells of all positions stand in the order of states.
use Rattle.std.proofs.Common.{◌≡◌, ℕ, zero, suc, ◌+◌, ◌-◌, ◌*◌, ◌<◌, ◌≤◌, ◌⊎◌, inl, inr, true, List, [], ◌∷◌, ◌++◌, map, length, Option, Some, None, slice_get, Contains, refl, sym, ◌∙◌, ap, subst, arith, length-append, get_or}
use Rattle.std.specs.Option.{option_map}
use Rattle.std.proofs.lemmas.Bool.{false≢true, and_parts, cases_lt}
use Rattle.std.proofs.lemmas.List.{length-map}
use Rattle.std.proofs.lemmas.List.Elements.{Contains-append_left, Contains-append_right}
use Rattle.std.proofs.lemmas.Option.{none-some, slice_get-get_or, slice_get-map, slice_get_within, get_or_from_slice_get}
use Rattle.list_pack.specs.ListOrder.{lex_before}
use Rattle.list_pack.specs.LegsValue.{LegsValue}
use Rattle.list_pack.specs.LegsValueTerms.{KeepsLaws, sid_before, sid_key, ascends}
use Rattle.list_pack.specs.Least.{IsBefore, state_key_by}
use Rattle.list_encoder.specs.declared.cells.Cell.{Cell}
use Rattle.list_pack.specs.Rooms.{top_room}
use Rattle.list_encoder.specs.Cells.{cell_at, start_cell, state_at, IsCell, IsCellBy, AreCells, IsFirst, top_at, top_at_by}
use Rattle.list_encoder.proofs.SearchRooms.{top_seven}
use Rattle.list_pack.proofs.ListOrders.{head_cases, head_less, head_same, lex_trans, lex_longer}

-- between an element and its place
pub place_of : {X : Type 0} (xs : List X) (x : X) → Contains xs x → (k : ℕ) × (slice_get xs k ≡ Some x)
place_of xs x c = (c.0, slice_get-get_or xs c.0 x c.1 ∙ ap Some c.2)

pub contains_at : {X : Type 0} (xs : List X) (x : X) (k : ℕ) → slice_get xs k ≡ Some x → Contains xs x
contains_at xs x k e = (k, slice_get_within xs k x e, get_or_from_slice_get xs k x x e)

pub some_same : {X : Type 0} (x y : X) → Some x ≡ Some y → x ≡ y
some_same x y h = cc

-- places of a list and of one put after it
pub append_left : {X : Type 0} (xs ys : List X) (k : ℕ) → k < length xs → slice_get (xs ++ ys) k ≡ slice_get xs k
append_left [] ys k h = absurd (omega arith)
append_left (x ∷ xs) ys zero h = refl
append_left (x ∷ xs) ys (suc k) h = append_left xs ys k (omega arith)

pub append_right : {X : Type 0} (xs ys : List X) (k : ℕ) → slice_get (xs ++ ys) (length xs + k) ≡ slice_get ys k
append_right [] ys k = let e : 0 + k ≡ k = omega arith in ap (slice_get ys) e
append_right (x ∷ xs) ys k =
    let e : suc (length xs) + k ≡ suc (length xs + k) = omega arith in
    ap (slice_get (x ∷ (xs ++ ys))) e ∙ append_right xs ys k

-- an element of the whole is one of the first list or of the second
pub append_cases : {X : Type 0} (xs ys : List X) (k : ℕ) (x : X) → slice_get (xs ++ ys) k ≡ Some x
    → ((k < length xs) × (slice_get xs k ≡ Some x)) ⊎ ((length xs ≤ k) × (slice_get ys (k - length xs) ≡ Some x))
append_cases {X} xs ys k x h =
    elim (cases_lt k (length xs)) as (λ w. ((k < length xs) × (slice_get xs k ≡ Some x)) ⊎
    ((length xs ≤ k) × (slice_get ys (k - length xs) ≡ Some x))) [
      | inl less ↦ inl (less, sym (append_left xs ys k less) ∙ h)
      | inr more ↦
          let e : length xs + (k - length xs) ≡ k = omega arith in
          inr (more, sym (append_right xs ys (k - length xs)) ∙ ap (slice_get (xs ++ ys)) e ∙ h)
    ]

-- the SIDs of a position are in order, any two of them
rises : (v : LegsValue) (n : ℕ) (xs : List ℕ) (j m : ℕ) → ascends v (n ∷ xs) ≡ true → slice_get xs j ≡ Some m → sid_before v n m ≡ true
rises v n [] j m h e = absurd (none-some m e)
rises v n (x ∷ xs) zero m h e =
    let same : x ≡ m = cc in
    subst (λ (y : ℕ). sid_before v n y ≡ true) same (and_parts (sid_before v n x) (ascends v (x ∷ xs)) h).0
rises v n (x ∷ xs) (suc j) m h e =
    let parts = and_parts (sid_before v n x) (ascends v (x ∷ xs)) h in
    lex_trans (sid_key v n) (sid_key v x) (sid_key v m) parts.0 (rises v x xs j m parts.1 e)

pub sids_rise : (v : LegsValue) (xs : List ℕ) (i j n m : ℕ) → ascends v xs ≡ true → i < j → slice_get xs i ≡ Some n
    → slice_get xs j ≡ Some m
    → sid_before v n m ≡ true
sids_rise v [] i j n m h l e f = absurd (none-some n e)
sids_rise v (x ∷ xs) zero zero n m h l e f = absurd (omega arith)
sids_rise v (x ∷ xs) zero (suc j) n m h l e f =
    let same : x ≡ n = cc in
    subst (λ (y : ℕ). sid_before v y m ≡ true) same (rises v x xs j m h f)
sids_rise v (x ∷ xs) (suc i) zero n m h l e f = absurd (omega arith)
sids_rise v (x ∷ []) (suc i) (suc j) n m h l e f = absurd (none-some n e)
sids_rise v (x ∷ y ∷ ys) (suc i) (suc j) n m h l e f =
    sids_rise v (y ∷ ys) i j n m (and_parts (sid_before v x y) (ascends v (y ∷ ys)) h).1 (omega arith) e f

-- the cells of the positions before one
pub record AreCellsBefore (v : LegsValue) (position : ℕ) (cells : List Cell) : Type 0 where
  pub begins : slice_get cells 0 ≡ Some start_cell
  pub each : (p n : ℕ) → p < position → Contains (v.sids_at p) n → Contains cells (cell_at p n)
  pub real : (k : ℕ) (cell : Cell) → slice_get cells k ≡ Some cell → IsCell v cell
  pub earlier : (k n : ℕ) (cell : Cell) → slice_get cells k ≡ Some cell → cell.via ≡ Some n → cell.position < position
  pub order : (i j : ℕ) (a b : Cell) (p q : ℕ) → i < j → slice_get cells i ≡ Some a → slice_get cells j ≡ Some b
      → IsBefore v (state_at a p) (state_at b q)
  pub few : length cells ≤ 1 + 128 * position

-- a cell of one more position
mapped_at : (v : LegsValue) (position k : ℕ) (cell : Cell) → slice_get (map (cell_at position) (v.sids_at position)) k ≡ Some cell
    → (n : ℕ) × (slice_get (v.sids_at position) k ≡ Some n) × (cell_at position n ≡ cell)
mapped_at v position k cell h = by (slice_get (v.sids_at position) k) refl
    (sym (slice_get-map (cell_at position) (v.sids_at position) k) ∙ h)
  where
    by : (o : Option ℕ) → slice_get (v.sids_at position) k ≡ o → option_map (cell_at position) o ≡ Some cell
        → (n : ℕ) × (slice_get (v.sids_at position) k ≡ Some n) × (cell_at position n ≡ cell)
    by None e f = absurd (none-some cell f)
    by (Some n) e f = (n, e, some_same (cell_at position n) cell f)

-- the cell of an earlier position, or the start's, comes before one of a later position
before_later : (v : LegsValue) (a : Cell) (position n p q : ℕ) (via : Option ℕ) → ((m : ℕ) → via ≡ Some m → a.position < position)
    → lex_before (state_key_by v a.position via p) (state_key_by v position (Some n) q) ≡ true
before_later v a position n p q None h = refl
before_later v a position n p q (Some m) h =
    head_less a.position position ((v.shape m).prefix.value ∷ (v.shape m).prefix.len ∷ v.node m ∷ p ∷ [])
    ((v.shape n).prefix.value ∷ (v.shape n).prefix.len ∷ v.node n ∷ q ∷ []) (h m refl)

-- the cell of an earlier SID of a position comes before that of a later one
before_within : (v : LegsValue) (position n m p q : ℕ) → sid_before v n m ≡ true
    → IsBefore v (state_at (cell_at position n) p) (state_at (cell_at position m) q)
before_within v position n m p q h =
    head_same position position ((v.shape n).prefix.value ∷ (v.shape n).prefix.len ∷ v.node n ∷ p ∷ [])
    ((v.shape m).prefix.value ∷ (v.shape m).prefix.len ∷ v.node m ∷ q ∷ []) refl
    (lex_longer (sid_key v n) (sid_key v m) (p ∷ []) (q ∷ []) refl h)

module _ (v : LegsValue) (laws : KeepsLaws v) (position : ℕ) (cells : List Cell) (within : position ≤ v.steps)
    (are : AreCellsBefore v position cells) where
  more_each : (p n : ℕ) → p < position + 1 → Contains (v.sids_at p) n
      → Contains (cells ++ map (cell_at position) (v.sids_at position)) (cell_at p n)
  more_each p n h c =
      elim (cases_lt p position) as (λ w. Contains (cells ++ map (cell_at position) (v.sids_at position)) (cell_at p n)) [
        | inl less ↦ Contains-append_left cells (map (cell_at position) (v.sids_at position)) (cell_at p n) (are.each p n less c)
        | inr above ↦
            let e : p ≡ position = omega (arith, h, above) in
            Contains-append_right cells (map (cell_at position) (v.sids_at position)) (cell_at p n)
            (subst (λ (q : ℕ). Contains (map (cell_at q) (v.sids_at q)) (cell_at p n)) e (mapped p n c))
      ]
    where
      mapped : (p n : ℕ) → Contains (v.sids_at p) n → Contains (map (cell_at p) (v.sids_at p)) (cell_at p n)
      mapped p n c =
          let at = place_of (v.sids_at p) n c in
          contains_at (map (cell_at p) (v.sids_at p)) (cell_at p n) at.0
          (slice_get-map (cell_at p) (v.sids_at p) at.0 ∙ ap (λ (o : Option ℕ). option_map (cell_at p) o) at.1)

  more_real : (k : ℕ) (cell : Cell) → slice_get (cells ++ map (cell_at position) (v.sids_at position)) k ≡ Some cell → IsCell v cell
  more_real k cell h =
      elim (append_cases cells (map (cell_at position) (v.sids_at position)) k cell h) as (λ w. IsCell v cell) [
        | inl old ↦ are.real k cell old.1
        | inr new ↦
            let it = mapped_at v position (k - length cells) cell new.1 in
            let is : IsCell v (cell_at position it.0) = (within, contains_at (v.sids_at position) it.0 (k - length cells) it.1) in
            subst (λ (c : Cell). IsCell v c) it.2 is
      ]

  more_earlier : (k n : ℕ) (cell : Cell) → slice_get (cells ++ map (cell_at position) (v.sids_at position)) k ≡ Some cell
      → cell.via ≡ Some n
      → cell.position < position + 1
  more_earlier k n cell h e =
      elim (append_cases cells (map (cell_at position) (v.sids_at position)) k cell h) as (λ w. cell.position < position + 1) [
        | inl old ↦ let less = are.earlier k n cell old.1 e in omega (arith, less)
        | inr new ↦
            let it = mapped_at v position (k - length cells) cell new.1 in
            let same : position ≡ cell.position = ap (λ (c : Cell). c.position) it.2 in
            omega (arith, same)
      ]

  order_new : (i j : ℕ) (a b : Cell) (p q : ℕ) → i < j → slice_get (map (cell_at position) (v.sids_at position)) i ≡ Some a
      → slice_get (map (cell_at position) (v.sids_at position)) j ≡ Some b → IsBefore v (state_at a p) (state_at b q)
  order_new i j a b p q h e f =
      let it = mapped_at v position i a e in
      let that = mapped_at v position j b f in
      let rise = sids_rise v (v.sids_at position) i j it.0 that.0 (laws.sids_order position within) h it.1 that.1 in
      subst (λ (c : Cell). IsBefore v (state_at c p) (state_at b q)) it.2
      (subst (λ (c : Cell). IsBefore v (state_at (cell_at position it.0) p) (state_at c q)) that.2
      (before_within v position it.0 that.0 p q rise))

  order_over : (i j : ℕ) (a b : Cell) (p q : ℕ) → slice_get cells i ≡ Some a
      → slice_get (map (cell_at position) (v.sids_at position)) j ≡ Some b → IsBefore v (state_at a p) (state_at b q)
  order_over i j a b p q e f =
      let that = mapped_at v position j b f in
      subst (λ (c : Cell). IsBefore v (state_at a p) (state_at c q)) that.2
      (before_later v a position that.0 p q a.via (λ m via. are.earlier i m a e via))

  more_order : (i j : ℕ) (a b : Cell) (p q : ℕ) → i < j → slice_get (cells ++ map (cell_at position) (v.sids_at position)) i ≡ Some a
      → slice_get (cells ++ map (cell_at position) (v.sids_at position)) j ≡ Some b → IsBefore v (state_at a p) (state_at b q)
  more_order i j a b p q h e f =
      elim (append_cases cells (map (cell_at position) (v.sids_at position)) i a e) as (λ w. IsBefore v (state_at a p) (state_at b q)) [
        | inl old ↦
            elim (append_cases cells (map (cell_at position) (v.sids_at position)) j b f) as
            (λ w. IsBefore v (state_at a p) (state_at b q)) [
              | inl also ↦ are.order i j a b p q h old.1 also.1
              | inr new ↦ order_over i (j - length cells) a b p q old.1 new.1
            ]
        | inr new ↦
            elim (append_cases cells (map (cell_at position) (v.sids_at position)) j b f) as
            (λ w. IsBefore v (state_at a p) (state_at b q)) [
              | inl old ↦ absurd (omega (arith, h, new.0, old.0))
              | inr also ↦ order_new (i - length cells) (j - length cells) a b p q (omega (arith, h, new.0, also.0)) new.1 also.1
            ]
      ]

  pub cells_more : AreCellsBefore v (position + 1) (cells ++ map (cell_at position) (v.sids_at position))
  cells_more =
      let some : 0 < length cells = slice_get_within cells 0 start_cell are.begins in
      let long = length-append cells (map (cell_at position) (v.sids_at position)) in
      let as_many = length-map (v.sids_at position) (cell_at position) in
      let few = laws.sids_count position within in
      record {
        begins = append_left cells (map (cell_at position) (v.sids_at position)) 0 some ∙ are.begins;
        each = more_each;
        real = more_real;
        earlier = more_earlier;
        order = more_order;
        few = omega (arith, long, as_many, few, are.few);
      }

pub cells_turn : (v : LegsValue) → KeepsLaws v → (position steps : ℕ) (sids : List ℕ) (cells after : List Cell) → steps ≡ v.steps
    → position < steps + 1
    → sids ≡ v.sids_at position → after ≡ cells ++ map (cell_at position) sids → AreCellsBefore v position cells
    → AreCellsBefore v (position + 1) after
cells_turn v laws position steps sids cells after e h s a are =
    subst (λ (xs : List Cell). AreCellsBefore v (position + 1) xs)
    (ap (λ (ys : List ℕ). cells ++ map (cell_at position) ys) (sym s) ∙ sym a) (cells_more v laws position cells (omega (arith, e, h)) are)

-- positions never fall along the cells
positions_by : (v : LegsValue) (a b : Cell) (p q : ℕ) (via then : Option ℕ) → IsCellBy v a.position via
    → lex_before (state_key_by v a.position via p)
    (state_key_by v b.position then q) ≡ true → a.position ≤ b.position
positions_by v a b p q None then is h = omega (arith, is)
positions_by v a b p q (Some n) None is h = absurd (false≢true h)
positions_by v a b p q (Some n) (Some m) is h =
    elim (head_cases a.position b.position ((v.shape n).prefix.value ∷ (v.shape n).prefix.len ∷ v.node n ∷ p ∷ [])
    ((v.shape m).prefix.value ∷ (v.shape m).prefix.len ∷ v.node m ∷ q ∷ []) h) as (λ w. a.position ≤ b.position) [
      | inl less ↦ omega (arith, less)
      | inr same ↦ omega (arith, same.0)
    ]

pub positions_rise : (v : LegsValue) (cells : List Cell) → AreCells v cells → (i j : ℕ) (a b : Cell) → i ≤ j → slice_get cells i ≡ Some a
    → slice_get cells j ≡ Some b → a.position ≤ b.position
positions_rise v cells are i j a b h e f =
    elim (cases_lt i j) as (λ w. a.position ≤ b.position) [
      | inl less ↦ positions_by v a b 0 0 a.via b.via (are.real i a e) (are.order i j a b 0 0 less e f)
      | inr more ↦
          let same : i ≡ j = omega (arith, h, more) in
          let cell : a ≡ b = some_same a b (sym e ∙ ap (slice_get cells) same ∙ f) in
          let p : a.position ≡ b.position = ap (λ (c : Cell). c.position) cell in
          omega (arith, p)
    ]

-- the first cell that is not of an earlier position
pub first_found : (v : LegsValue) (cells : List Cell) → AreCells v cells → (position k : ℕ) (cell : Cell) → slice_get cells k ≡ Some cell
    → position ≤ cell.position → ((j : ℕ) (other : Cell) → j < k → slice_get cells j ≡ Some other → other.position < position)
    → IsFirst cells position k
first_found v cells are position k cell here above below =
    let w = slice_get_within cells k cell here in
    record {
      within = omega (arith, w);
      earlier = below;
      later = λ j other h e. let rise = positions_rise v cells are k j cell other h here e in omega (arith, rise, above);
    }

pub first_none : (cells : List Cell) (position k : ℕ) → k ≡ length cells
    → ((j : ℕ) (other : Cell) → j < k → slice_get cells j ≡ Some other → other.position < position) → IsFirst cells position k
first_none cells position k e below =
    record {
      within = omega (arith, e);
      earlier = below;
      later = λ j other h f. let w = slice_get_within cells j other f in absurd (omega (arith, e, h, w));
    }

pub cell_read : (cells : List Cell) (k : ℕ) → k < length cells
    → slice_get cells k ≡ Some (get_or cells k (record { position = 0; via = None }))
cell_read cells k h = slice_get-get_or cells k (record { position = 0; via = None }) h

pub first_more : (cells : List Cell) (position k : ℕ) (cell : Cell) → slice_get cells k ≡ Some cell → cell.position < position
    → ((j : ℕ) (other : Cell) → j < k → slice_get cells j ≡ Some other → other.position < position)
    → (j : ℕ) (other : Cell) → j < k + 1 → slice_get cells j ≡ Some other → other.position < position
first_more cells position k cell here below before j other h e =
    elim (cases_lt j k) as (λ w. other.position < position) [
      | inl less ↦ before j other less e
      | inr more ↦
          let same : j ≡ k = omega (arith, h, more) in
          let it : cell ≡ other = some_same cell other (sym here ∙ ap (slice_get cells) (sym same) ∙ e) in
          subst (λ (c : Cell). c.position < position) it below
    ]

pub first_end : {j k n : ℕ} → n ≤ k → j < n → j < k
first_end h l = omega (arith, h, l)

top_few : (v : LegsValue) → KeepsLaws v → (position : ℕ) (via : Option ℕ) → IsCellBy v position via → top_at_by v via ≤ 7
top_few v laws position None is = omega arith
top_few v laws position (Some n) is = top_seven (v.shape n) (laws.shapes n (position, is.0, is.1)) (v.shape n).csid refl

pub top_at_few : (v : LegsValue) → KeepsLaws v → (cell : Cell) → IsCell v cell → top_at v cell ≤ 7
top_at_few v laws cell is = top_few v laws cell.position cell.via is

pub top_few_by : (v : LegsValue) → KeepsLaws v → (cell : Cell) (n top : ℕ) → IsCell v cell → cell.via ≡ Some n
    → top ≡ top_room (v.shape n) → top ≤ 7
top_few_by v laws cell n top is e h =
    let few : top_at_by v (Some n) ≤ 7 = subst (λ (o : Option ℕ). top_at_by v o ≤ 7) e (top_few v laws cell.position cell.via is) in
    omega (arith, h, few)

pub sid_read : (sids : List ℕ) (k : ℕ) → k < length sids → slice_get sids k ≡ Some (get_or sids k 0)
sid_read sids k h = slice_get-get_or sids k 0 h
