-- The listing of a table of least costs is one of all states.
use Rattle.std.proofs.Common.{◌≡◌, ℕ, ◌+◌, ◌*◌, ◌<◌, ◌≤◌, inl, inr, true, List, [], ◌∷◌, ◌++◌, length, get_or, Option, Some, None, slice_get, Contains, refl, sym, ◌∙◌, ap, subst, arith}
use Rattle.std.proofs.lemmas.Bool.{cases_lt}
use Rattle.std.proofs.lemmas.Option.{none-some, slice_get_within, get_or_from_slice_get, slice_get-get_or}
use Rattle.std.proofs.lemmas.List.Elements.{All-weaker, All-contains_itself, Contains-append_left, Contains-push, Contains-push_cases}
use Rattle.std.proofs.lemmas.List.Quantifiers.{all_pairs_push}
use Rattle.list_pack.specs.declared.types.Cost.{Cost}
use Rattle.list_pack.specs.declared.types.State.{State}
use Rattle.list_pack.specs.declared.types.Potential.{Potential}
use Rattle.list_pack.specs.ListOrder.{lex_before}
use Rattle.list_pack.specs.LegsValue.{LegsValue}
use Rattle.list_pack.specs.LegsValueTerms.{KeepsLaws, IsVia}
use Rattle.list_pack.specs.Costs.{Move, edge_of, cost_of, Under, IsState, IsStateBy}
use Rattle.list_pack.specs.Least as leasts
use Rattle.list_pack.proofs.PublicLaws.{edge_parts, last_parts}
use Rattle.list_encoder.specs.declared.cells.Cell.{Cell}
use Rattle.list_encoder.specs.Cells.{cell_at, start_cell, state_at, IsCellBy, AreCells, top_at, top_at_by}
use Rattle.list_encoder.specs.CellTable.{Costs, entry, AreLeast, HasFewContainers}
use Rattle.list_encoder.specs.declared.cell_table.TheConstants.{MAX_PATH_CONTAINERS}
use Rattle.list_encoder.specs.Listing.{IsOfPlace, IsListed, IsTop, ListsFewContainers}
use Rattle.list_pack.proofs.ListOrders.{head_same, head_less}
use Rattle.list_encoder.proofs.SearchCelling.{some_same, place_of, top_at_few}
use Rattle.list_encoder.proofs.Heading.{edge_some}

-- a place beyond which nothing more is listed
pub listed_further : (v : LegsValue) (cells : List Cell) (t : Costs) (n m : ℕ) (ps : List Potential) → n ≤ m
    → ((k room : ℕ) (cell : Cell) (c : Cost) → slice_get cells k ≡ Some cell → room ≤ top_at v cell → n ≤ 8 * k + room → 8 * k + room < m
    → entry t k room ≡ Some c → ⊥)
    → IsListed v cells t n ps → IsListed v cells t m ps
listed_further v cells t n m ps h none so =
    record {
      all = λ k room cell c at top l e.
          elim (cases_lt (8 * k + room) n) as (λ w. Contains ps (record { state = state_at cell room; cost = c })) [
            | inl less ↦ so.all k room cell c at top less e
            | inr more ↦ absurd (none k room cell c at top more l e)
          ];
      only = λ q c.
          let of = so.only q c in
          record {
            k = of.k;
            room = of.room;
            cell = of.cell;
            at = of.at;
            top = of.top;
            before = omega (arith, h, of.before);
            cost =
                of.cost;
            state = of.state;
          };
      order = so.order;
    }

-- states in the order of their places
rooms_rise : (v : LegsValue) (position : ℕ) (via : Option ℕ) (p q : ℕ) → p < q → q ≤ top_at_by v via
    → lex_before (leasts.state_key_by v position via p) (leasts.state_key_by v position via q) ≡ true
rooms_rise v position None p q h l = absurd (omega (arith, h, l))
rooms_rise v position (Some n) p q h l =
    head_same position position ((v.shape n).prefix.value ∷ (v.shape n).prefix.len ∷ v.node n ∷ p ∷ [])
    ((v.shape n).prefix.value ∷ (v.shape n).prefix.len ∷ v.node n ∷ q ∷ []) refl
    (head_same (v.shape n).prefix.value (v.shape n).prefix.value ((v.shape n).prefix.len ∷ v.node n ∷ p ∷ [])
    ((v.shape n).prefix.len ∷ v.node n ∷ q ∷ []) refl
    (head_same (v.shape n).prefix.len (v.shape n).prefix.len (v.node n ∷ p ∷ []) (v.node n ∷ q ∷ []) refl
    (head_same (v.node n) (v.node n) (p ∷ []) (q ∷ []) refl (head_less p q [] [] h))))

module _ (v : LegsValue) (laws : KeepsLaws v) (cells : List Cell) (are : AreCells v cells) (t : Costs) where
  places_rise : (i j : ℕ) (a b : Cell) (p q : ℕ) → slice_get cells i ≡ Some a → slice_get cells j ≡ Some b → p ≤ top_at v a → q ≤ top_at v b
      → 8 * i + p < 8 * j + q → leasts.IsBefore v (state_at a p) (state_at b q)
  places_rise i j a b p q at_a at_b top_a top_b h =
      let few = top_at_few v laws b (are.real j b at_b) in
      elim (cases_lt i j) as (λ w. leasts.IsBefore v (state_at a p) (state_at b q)) [
        | inl less ↦ are.order i j a b p q less at_a at_b
        | inr more ↦
            let same : i ≡ j = omega (arith, h, more, few, top_b) in
            let is : a ≡ b = some_same a b (sym at_a ∙ ap (slice_get cells) same ∙ at_b) in
            subst (λ (c : Cell). leasts.IsBefore v (state_at c p) (state_at b q)) (sym is)
            (rooms_rise v b.position b.via p q (omega (arith, h, same)) top_b)
      ]

  -- of one place there is one potential
  same_potential : (k j room r : ℕ) (cell other : Cell) (c d : Cost) → slice_get cells k ≡ Some cell → slice_get cells j ≡ Some other
      → room ≤ top_at v cell → r ≤ top_at v other → 8 * j + r ≡ 8 * k + room → entry t k room ≡ Some c → entry t j r ≡ Some d
      → ◌≡◌ {A = Potential} (record { state = state_at cell room; cost = c }) (record { state = state_at other r; cost = d })
  same_potential k j room r cell other c d here at top below h e f =
      let few = top_at_few v laws cell (are.real k cell here) in
      let rare = top_at_few v laws other (are.real j other at) in
      let place : j ≡ k = omega (arith, h, few, rare, top, below) in
      let rooms : r ≡ room = omega (arith, h, few, rare, top, below) in
      let cells_same : cell ≡ other = some_same cell other (sym here ∙ ap (slice_get cells) (sym place) ∙ at) in
      let costs : c ≡ d = some_same c d (sym e ∙ ap (λ (x : ℕ). entry t x room) (sym place) ∙ ap (entry t j) (sym rooms) ∙ f) in
      ap (λ (x : Cell). let y : Potential = record { state = state_at x room; cost = c } in y) cells_same
      ∙ ap (λ (x : ℕ). let y : Potential = record { state = state_at other x; cost = c } in y) (sym rooms)
      ∙ ap (λ (x : Cost). let y : Potential = record { state = state_at other r; cost = x } in y) costs

  -- one more cost is listed
  pub listed_more : (k room : ℕ) (cell : Cell) (c : Cost) (ps after : List Potential) → slice_get cells k ≡ Some cell → room ≤ top_at v cell
      → entry t k room ≡ Some c → after ≡ ps ++ record { state = state_at cell room; cost = c } ∷ [] → IsListed v cells t (8 * k + room) ps
      → IsListed v cells t (8 * k + room + 1) after
  listed_more k room cell c ps after here top e is so =
      let new : Potential = record { state = state_at cell room; cost = c } in
      subst (λ (xs : List Potential). IsListed v cells t (8 * k + room + 1) xs) (sym is) (record {
        all = λ j r other d at below h f.
            elim (cases_lt (8 * j + r) (8 * k + room)) as (λ w. Contains (ps ++ new ∷ []) (record { state = state_at other r; cost = d })) [
              | inl less ↦
                  Contains-append_left ps (new ∷ []) (record { state = state_at other r; cost = d }) (so.all j r other d at below less f)
              | inr more ↦
                  subst (λ (x : Potential). Contains (ps ++ new ∷ []) x)
                  (same_potential k j room r cell other c d here at top below (omega (arith, h, more)) e f) (Contains-push ps new)
            ];
        only = λ q among.
            elim (Contains-push_cases ps new q among) as (λ w. IsOfPlace v cells t (8 * k + room + 1) q) [
              | inl old ↦
                  let of = so.only q old in
                  record {
                    k = of.k;
                    room = of.room;
                    cell = of.cell;
                    at = of.at;
                    top = of.top;
                    before = omega (arith, of.before);
                    cost = of.cost;
                    state = of.state;
                  }
              | inr same ↦
                  subst (λ (x : Potential). IsOfPlace v cells t (8 * k + room + 1) x) same
                  (record { k = k; room = room; cell = cell; at = here; top = top; before = omega arith; cost = e; state = refl })
            ];
        order = all_pairs_push (λ (p q : Potential). leasts.IsBefore v p.state q.state) ps new so.order (λ i d h.
            let of = so.only (get_or ps i d) (i, h, same_read ps i d h) in
            subst (λ (s : State). leasts.IsBefore v s (state_at cell room)) (sym of.state)
            (places_rise of.k k of.cell cell of.room room of.at here of.top top of.before));
      })
    where
      same_read : (xs : List Potential) (i : ℕ) (d : Potential) → i < length xs → get_or xs i (get_or xs i d) ≡ get_or xs i d
      same_read xs i d h = get_or_from_slice_get xs i (get_or xs i d) (get_or xs i d) (slice_get-get_or xs i d h)

  -- a cell without more costs
  pub listed_cell : (k room top : ℕ) (ps : List Potential) → k < length cells → IsTop v cells k top → top + 1 ≤ room
      → IsListed v cells t (8 * k + room) ps
      → room ≤ 8 → IsListed v cells t (8 * k + 8) ps
  listed_cell k room top ps within is_top h so l =
      listed_further v cells t (8 * k + room) (8 * k + 8) ps (omega (arith, l)) (λ j r cell c at below from to e.
      let few = top_at_few v laws cell (are.real j cell at) in
      let same : j ≡ k = omega (arith, from, to, few, below) in
      let top_is = is_top cell (ap (slice_get cells) (sym same) ∙ at) in
      absurd (omega (arith, from, same, below, top_is, h))) so

  -- a room without a cost
  pub listed_room : (k room : ℕ) (ps : List Potential) → room < 8 → entry t k room ≡ None → IsListed v cells t (8 * k + room) ps
      → IsListed v cells t (8 * k + room + 1) ps
  listed_room k room ps low none so =
      listed_further v cells t (8 * k + room) (8 * k + room + 1) ps (omega arith) (λ j r cell c at below from to e.
      let few = top_at_few v laws cell (are.real j cell at) in
      let places : (j ≡ k) × (r ≡ room) = (omega (arith, from, to, few, below, low), omega (arith, from, to, few, below, low)) in
      none-some c (sym none ∙ ap (λ (x : ℕ). entry t x room) (sym places.0) ∙ ap (entry t j) (sym places.1) ∙ e)) so

  -- the SID of a state from which a path leads on is a middle one
  via_middle : (s : State) (n : ℕ) (c : Cost) (moves : List Move) → s.via ≡ Some n → cost_of v s moves ≡ Some c → (v.shape n).middle ≡ true
  via_middle s n c [] e h = absurd (none-some c h)
  via_middle s n c (m ∷ []) e h =
      let parts = last_parts v s m c h in
      let from = (laws.finish s.position s.via m.sid parts.hops parts.finish_is).from_via in
      (subst (λ (o : Option ℕ). IsVia v s.position o) e from).1
  via_middle s n c (m ∷ o ∷ more) e h =
      let edge_fact = edge_some v s c (edge_of v s m) (λ (x : State). cost_of v x (o ∷ more)) h in
      let parts = edge_parts v s m edge_fact.0 edge_fact.1 in
      let from = (laws.leg s.position s.via m.sid parts.leg parts.leg_is).from_via in
      (subst (λ (p : Option ℕ). IsVia v s.position p) e from).1

  state_by : (position : ℕ) (via : Option ℕ) (room : ℕ) (c : Cost) (moves : List Move) → IsCellBy v position via → room ≤ top_at_by v via
      → cost_of v (record { position = position; via = via; room = room }) moves ≡ Some c → IsStateBy v position via room
  state_by position None room c moves is top h = (is, omega (arith, top))
  state_by position (Some n) room c moves is top h =
      (is.0, is.1, via_middle (record { position = position; via = Some n; room = room }) n c moves refl h, top)

  module _ (least : AreLeast v cells t) where
    -- what is listed is a state with its least cost
    exact : (n : ℕ) (q : Potential) → IsOfPlace v cells t n q → IsState v q.state × leasts.IsLeast v q.state (Some q.cost)
    exact n q of =
        let few = top_at_few v laws of.cell (are.real of.k of.cell of.at) in
        let low : of.room < 8 = omega (arith, few, of.top) in
        let is = subst (λ (o : Option Cost). leasts.IsLeast v (state_at of.cell of.room) o) of.cost (least of.k of.room of.cell of.at low)
        in
        let path = is.attains in
        let state : IsState v (state_at of.cell of.room) =
        state_by of.cell.position of.cell.via of.room q.cost path.0 (are.real of.k of.cell of.at) of.top path.1 in
        (subst (λ (s : State). IsState v s) (sym of.state) state, subst (λ (s : State). leasts.IsLeast v s (Some q.cost)) (sym of.state) is)

    -- the cell of a state
    cell_of : (position : ℕ) (via : Option ℕ) (room : ℕ) → IsStateBy v position via room
        → (k : ℕ) × (slice_get cells k ≡ Some (record { position = position; via = via })) × (room ≤ top_at_by v via)
    cell_of position None room is =
        let zero : start_cell ≡ record { position = position; via = None } =
        ap (λ (p : ℕ). let c : Cell = record { position = p; via = None } in c) (sym is.0) in
        (0, are.begins ∙ ap (λ (c : Cell). Some c) zero, omega (arith, is.1))
    cell_of position (Some n) room is =
        let place = place_of cells (cell_at position n) (are.each position n is.0 is.1) in
        (place.0, place.1, is.3)

    among : (ps : List Potential) (s : State) (k : ℕ) (moves : List Move) (c : Cost) (o : Option Cost)
        → slice_get cells k ≡ Some (record { position = s.position; via = s.via }) → s.room ≤ top_at_by v s.via → cost_of v s moves ≡ Some c
        → entry t k s.room ≡ o → leasts.IsLeast v s o → IsListed v cells t (8 * length cells) ps → leasts.IsListed ps s
    among ps s k moves c None at top h e is so = absurd (subst (λ (q : Option Cost). Under None q) h (is.least moves))
    among ps s k moves c (Some d) at top h e is so =
        let w = slice_get_within cells k (record { position = s.position; via = s.via }) at in
        let few = top_at_few v laws (record { position = s.position; via = s.via })
        (are.real k (record { position = s.position; via = s.via }) at) in
        (d, so.all k s.room (record { position = s.position; via = s.via }) d at top (omega (arith, w, few, top)) e)

    pub listing : (n : ℕ) (ps : List Potential) → 8 * length cells ≤ n → IsListed v cells t n ps → leasts.IsListing v ps
    listing n ps h so =
        record {
          listed = λ s moves c is cost.
              let place = cell_of s.position s.via s.room is in
              let few = top_at_few v laws (record { position = s.position; via = s.via })
              (are.real place.0 (record { position = s.position; via = s.via }) place.1) in
              let low : s.room < 8 = omega (arith, few, place.2) in
              among ps s place.0 moves c (entry t place.0 s.room) place.1 place.2 cost refl
              (least place.0 s.room (record { position = s.position; via = s.via }) place.1 low) (shorter so);
          exact = λ q c. exact n q (so.only q c);
          order = so.order;
        }
      where
        shorter : IsListed v cells t n ps → IsListed v cells t (8 * length cells) ps
        shorter is =
            record {
              all = λ k room cell c at top l e. is.all k room cell c at top (omega (arith, h, l)) e;
              only = λ q c.
                  let of = is.only q c in
                  let few = top_at_few v laws of.cell (are.real of.k of.cell of.at) in
                  let w = slice_get_within cells of.k of.cell of.at in
                  record {
                    k = of.k;
                    room = of.room;
                    cell = of.cell;
                    at = of.at;
                    top = of.top;
                    before = omega (arith, w, few, of.top);
                    cost = of.cost;
                    state = of.state;
                  };
              order = is.order;
            }

-- what is listed is of the table's entries
pub lists_few : (v : LegsValue) (cells : List Cell) (t : Costs) (n : ℕ) (ps : List Potential) → HasFewContainers t
    → IsListed v cells t n ps → ListsFewContainers ps
lists_few v cells t n ps few listed =
    All-weaker (Contains ps) (λ (p : Potential). p.cost.containers ≤ MAX_PATH_CONTAINERS)
    (λ q c. let place = listed.only q c in few (8 * place.k + place.room) q.cost place.cost) ps (All-contains_itself ps)
