-- The first least path, move by move.
use Rattle.std.proofs.Common.{◌≡◌, ℕ, ◌+◌, ◌*◌, ◌<◌, Bool, true, false, List, [], ◌∷◌, ◌++◌, map, length, Option, Some, None, slice_get, refl, sym, ◌∙◌, ap, subst, arith, append_assoc}
use Rattle.std.proofs.lemmas.Option.{none-some, slice_get_within}
use Rattle.std.proofs.lemmas.List.{map-append}
use Rattle.v6_addr.specs.Address.{PrefixValue}
use Rattle.list_pack.specs.declared.types.Cost.{Cost}
use Rattle.list_pack.specs.declared.types.PathStep.{PathStep}
use Rattle.list_pack.specs.LegsValue.{LegsValue}
use Rattle.list_pack.specs.LegsValueTerms.{KeepsLaws}
use Rattle.list_pack.specs.Costs.{Move, move_cost, room_to, cost_of}
use Rattle.list_pack.specs.Least.{Attains, IsFirstLeast, IsPath, step_of}
use Rattle.list_encoder.specs.declared.cells.Cell.{Cell}
use Rattle.list_encoder.specs.declared.picks.Pick.{Pick}
use Rattle.list_encoder.specs.declared.picks.CostedState.{CostedState}
use Rattle.list_encoder.specs.Cells.{cell_at, start_cell, state_at, AreCells}
use Rattle.list_encoder.specs.CellTable.{Costs, rest_at, AreLeast, move_by}
use Rattle.list_encoder.specs.Picks.{IsCostedState, PicksFirst}
use Rattle.list_encoder.proofs.SearchRooms.{behind_few, stay_less, open_few}
use Rattle.list_encoder.proofs.SearchTables.{edge_shape}
use Rattle.list_encoder.proofs.RelaxedRooms.{leg_parts}
use Rattle.list_encoder.proofs.Heading.{head_of}
use Rattle.list_encoder.proofs.SearchPathing.{pick_move, first_least, FirstBehind}

-- so far: the moves that were made, after which the first least path from the costed state makes the first least one from the start
pub record Walked (v : LegsValue) (cells : List Cell) (t : Costs) (begin : CostedState) (steps : List PathStep) (costed_state : CostedState) : Type 0 where
  pub is_costed_state : IsCostedState cells t costed_state
  pub moves : List Move
  pub are : steps ≡ map (step_of v) moves
  pub leads : (rest : List Move) → IsFirstLeast v (state_at costed_state.cell costed_state.room) costed_state.cost rest
      → IsFirstLeast v (state_at begin.cell begin.room) begin.cost (moves ++ rest)

module _ (v : LegsValue) (laws : KeepsLaws v) (cells : List Cell) (are : AreCells v cells) (t : Costs) (least : AreLeast v cells t)
    (costed_state : CostedState)
    (is : IsCostedState cells t costed_state) where
  -- from a state with a path there is a tight move
  pub walked_never : PicksFirst v cells t costed_state None → ⊥
  walked_never picks =
      let attains : Attains v (state_at costed_state.cell costed_state.room) (Some costed_state.cost) =
      subst (λ (o : Option Cost). Attains v (state_at costed_state.cell costed_state.room) o) is.is
      (least costed_state.place costed_state.room costed_state.cell is.here is.few).attains in
      by attains.0 attains.1
    where
      by : (moves : List Move) → cost_of v (state_at costed_state.cell costed_state.room) moves ≡ Some costed_state.cost → ⊥
      by [] h = none-some costed_state.cost h
      by (n ∷ more) h =
          let head = head_of v laws cells are t least costed_state n more is h in
          picks.covers head.edge head.from head.is_edge n.stays head.left head.rest head.tight

  module _ (pick : Pick) (picks : PicksFirst v cells t costed_state (Some pick)) where
    room_few : pick.room < 8
    room_few =
        behind_few v costed_state.cell.via costed_state.room (move_by picks.found.edge pick.step.stays) pick.room
        (edge_shape v laws cells picks.found.edge picks.found.is_edge) is.few picks.found.tight.room_is

    step_is : pick.step ≡ step_of v (pick_move pick picks.found.edge.sid)
    step_is =
        ap (λ (x : PrefixValue). let s : PathStep = record { stays = pick.step.stays; prefix = x } in s) picks.found.prefix_is

    steps_are : (begin : CostedState) (steps : List PathStep) → (walked : Walked v cells t begin steps costed_state)
        → steps ++ pick.step ∷ [] ≡ map (step_of v) (walked.moves ++ pick_move pick picks.found.edge.sid ∷ [])
    steps_are begin steps walked =
        ap (λ (xs : List PathStep). xs ++ pick.step ∷ []) walked.are
        ∙ ap (λ (s : PathStep). map (step_of v) walked.moves ++ s ∷ []) step_is
        ∙ sym (map-append (step_of v) walked.moves (pick_move pick picks.found.edge.sid ∷ []))

    -- the last move
    pub walked_end : (begin : CostedState) (steps : List PathStep) → Walked v cells t begin steps costed_state → pick.to ≡ None → begin.cell ≡ start_cell
        → begin.room ≡ 0
        → IsPath v (steps ++ pick.step ∷ [])
    walked_end begin steps walked to cell room =
        let none : picks.found.edge.to ≡ None = sym picks.found.to_is ∙ to in
        let last = first_least v laws cells are t least costed_state is pick picks.found picks.covers [] (behind_none picks.found.edge.to none) in
        let whole = walked.leads (pick_move pick picks.found.edge.sid ∷ []) last in
        record {
          moves = walked.moves ++ pick_move pick picks.found.edge.sid ∷ [];
          cost = begin.cost;
          first =
              subst (λ (r : ℕ). IsFirstLeast v (state_at start_cell r) begin.cost
              (walked.moves ++ pick_move pick picks.found.edge.sid ∷ [])) room
              (subst (λ (c : Cell). IsFirstLeast v (state_at c begin.room) begin.cost
              (walked.moves ++ pick_move pick picks.found.edge.sid ∷ [])) cell whole);
          is_path = steps_are begin steps walked;
        }
      where
        behind_none : (to : Option ℕ) → to ≡ None → FirstBehind v cells pick [] to
        behind_none None e = refl
        behind_none (Some j) e = absurd (none-some j (sym e))

    -- one more move
    pub next_is : (place : ℕ) (cell : Cell) → pick.to ≡ Some place → slice_get cells place ≡ Some cell
        → IsCostedState cells t (record { place = place; cell = cell; room = pick.room; cost = pick.rest })
    next_is place cell to here =
        let there : picks.found.edge.to ≡ Some place = sym picks.found.to_is ∙ to in
        record {
          here = here;
          few = room_few;
          is = sym (ap (λ (o : Option ℕ). rest_at t o pick.room) there) ∙ picks.found.tight.rest_is;
        }

    pub place_within : (place : ℕ) → pick.to ≡ Some place → place < length cells
    place_within place to =
        let leads = leg_parts v cells picks.found.edge place (sym picks.found.to_is ∙ to) picks.found.is_edge in
        slice_get_within cells place (cell_at leads.0 picks.found.edge.sid) leads.1

    pub walked_more : (begin : CostedState) (steps : List PathStep) (place : ℕ) (cell : Cell) → Walked v cells t begin steps costed_state
        → pick.to ≡ Some place
        → slice_get cells place ≡ Some cell
        → Walked v cells t begin (steps ++ pick.step ∷ []) (record { place = place; cell = cell; room = pick.room; cost = pick.rest })
    walked_more begin steps place cell walked to here =
        let m : Move = pick_move pick picks.found.edge.sid in
        let there : picks.found.edge.to ≡ Some place = sym picks.found.to_is ∙ to in
        record {
          is_costed_state = next_is place cell to here;
          moves = walked.moves ++ m ∷ [];
          are = steps_are begin steps walked;
          leads = λ rest first.
              let behind : FirstBehind v cells pick rest picks.found.edge.to =
              subst (λ (o : Option ℕ). FirstBehind v cells pick rest o) (sym there) (cell, here, first) in
              let whole = walked.leads (m ∷ rest) (first_least v laws cells are t least costed_state is pick picks.found picks.covers rest behind)
              in
              subst (λ (ms : List Move). IsFirstLeast v (state_at begin.cell begin.room) begin.cost ms)
              (sym (append_assoc walked.moves (m ∷ []) rest)) whole;
        }

    -- along a tight move containers and room fall
    pub walk_falls : 8 * pick.rest.containers + pick.room < 8 * costed_state.cost.containers + costed_state.room
    walk_falls = by pick.step.stays picks.found.tight.room_is (ap (λ (c : Cost). c.containers) picks.found.tight.cost_is)
      where
        by : (stays : Bool) → room_to v costed_state.cell.via costed_state.room (move_by picks.found.edge stays) ≡ Some pick.room
            → (move_cost v.sid_cost stays picks.found.edge.hops).containers + pick.rest.containers ≡ costed_state.cost.containers
            → 8 * pick.rest.containers + pick.room < 8 * costed_state.cost.containers + costed_state.room
        by true r e =
            let less = stay_less v costed_state.cell.via costed_state.room picks.found.edge.sid pick.room
            (edge_shape v laws cells picks.found.edge picks.found.is_edge) r in
            omega (arith, less, e)
        by false r e =
            let few = open_few v costed_state.cell.via costed_state.room picks.found.edge.sid pick.room
            (edge_shape v laws cells picks.found.edge picks.found.is_edge) r in
            omega (arith, few, e)

    -- the same, with the steps as they are pushed
    pub walked_pushed : (begin : CostedState) (steps after : List PathStep) (place : ℕ) (cell : Cell) → after ≡ steps ++ pick.step ∷ []
        → Walked v cells t begin steps costed_state → pick.to ≡ Some place → slice_get cells place ≡ Some cell
        → Walked v cells t begin after (record { place = place; cell = cell; room = pick.room; cost = pick.rest })
    walked_pushed begin steps after place cell e walked to here =
        subst (λ (xs : List PathStep). Walked v cells t begin xs
        (record { place = place; cell = cell; room = pick.room; cost = pick.rest })) (sym e)
        (walked_more begin steps place cell walked to here)

    pub walked_ended : (begin : CostedState) (steps after : List PathStep) → after ≡ steps ++ pick.step ∷ [] → Walked v cells t begin steps costed_state
        → pick.to ≡ None
        → begin.cell ≡ start_cell → begin.room ≡ 0 → IsPath v after
    walked_ended begin steps after e walked to cell room =
        subst (λ (xs : List PathStep). IsPath v xs) (sym e) (walked_end begin steps walked to cell room)
