-- What leads on from positions and SIDs, as the rows grow.
use Rattle.std.proofs.Common.{◌≡◌, ℕ, ◌+◌, ◌-◌, ◌<◌, ◌≤◌, ◌⊎◌, inl, inr, Bool, true, false, ◌==◌, ◌&&◌, nat_le, if◌then◌else◌, List, [], ◌∷◌, ◌++◌, length, Option, Some, None, slice_get, refl, sym, ◌∙◌, ap, ap₂, subst, arith}
use Rattle.std.specs.Prelude.{IfSome}
use Rattle.std.specs.Option.{option_map, option_and_then}
use Rattle.std.proofs.lemmas.Bool.{cases_lt, le-leb}
use Rattle.std.proofs.lemmas.Option.{slice_get_past}
use Rattle.srv6_rules.specs.declared.sid.SidEntry.{SidEntry}
use Rattle.net_model.specs.Network.{Network}
use Rattle.net_model.specs.NetworkKeeps.{Keeps}
use Rattle.walk_rules.specs.declared.place.Place.{Place}
use Rattle.walk_rules.specs.Relation.{IsPlace}
use Rattle.intent_reader.specs.declared.intent.Intent.{Intent}
use Rattle.list_pack.specs.declared.types.Leg.{Leg}
use Rattle.intent_traces.specs.declared.trace_steps.TraceStep.{TraceStep}
use Rattle.choice_graph.specs.declared.vertices.Found.{Found}
use Rattle.choice_graph.specs.VertexTables.{AreFound}
use Rattle.choice_graph.proofs.GraphLists.{each_more, list_more}
use Rattle.loose_walks.specs.WayGraphs.{found_in, graph_in, numbers_of, start_at}
use Rattle.loose_walks.proofs.Nodes.{few_lowerings_from}
use Rattle.leg_table.specs.StrictLegs.{place_behind, place_from}
use Rattle.leg_table.specs.StrictLegsTerms.{middle_place, middle_place_by}
use Rattle.leg_table.specs.PositionSids.{first_address, is_middle, sid_address, sid_exposes, sid_goes_on, takes_step}
use Rattle.loose_spec.specs.LooseLegs.{finish_found, leg_found, way_found}
use Rattle.loose_spec.specs.LooseSids.{is_sid_at, is_origin, origin_of}
use Rattle.loose_spec.specs.LooseSteps.{steps_left}
use Rattle.loose_legs_theory.specs.LooseStepsTerms.{AreSteps}
use Rattle.loose_legs_theory.proofs.LooseSentenceWays.{start_at_law}
use Rattle.loose_legs.specs.LooseTable.{AreFurther, AreOnward, AreRowsFrom, AreTables, IsRowFrom, finish_to, leg_to, onward_at, onward_from, onward_of, onward_or_none}
use Rattle.loose_legs.specs.declared.onwards.Onward.{Onward}

-- ---- what is found in the graphs of the SIDs

pub sid_address_law : (net : Network) (n a : ℕ) (s : SidEntry) → slice_get net.sids n ≡ Some s → a ≡ s.prefix.value → a ≡ sid_address net n
sid_address_law net n a s there e = e ∙ ap first_address (sym there)

module _ (net : Network) (steps : List TraceStep) where
  pub table_more : (count a : ℕ) (s : SidEntry) (tables more : List (List (Option Found))) (table : List (Option Found))
      → AreTables net steps count tables → slice_get net.sids count ≡ Some s → a ≡ s.prefix.value
      → AreFound (graph_in net a steps) table → more ≡ tables ++ table ∷ [] → AreTables net steps (count + 1) more
  table_more count a s tables more table are there address is e =
      let m =
      each_more (λ (n : ℕ) (t : List (Option Found)). AreFound (graph_in net (sid_address net n) steps) t) count tables more table are.long
      are.each (subst (λ (d : ℕ). AreFound (graph_in net d steps) table) (sid_address_law net count a s there address) is) e in
      record { long = m.0; each = m.1 }

  pub found_low : Keeps net → (d left : ℕ) (place : Place) (found : Option Found) → found ≡ found_in net d steps left place
      → IfSome found (λ f. f.most ≤ 256)
  found_low keeps d left place found e = by_found found e
    where
      by_found : (o : Option Found) → o ≡ found_in net d steps left place → IfSome o (λ f. f.most ≤ 256)
      by_found None e = tt
      by_found (Some f) e =
          let l =
          few_lowerings_from net keeps d steps (start_at net (numbers_of net (length steps)) (steps_left steps left) place d) f (sym e) in
          let few : length net.nodes ≤ 256 = keeps.node_count in
          omega (arith, l, few)

module _ (net : Network) (intent : Intent) (steps : List TraceStep) where
  -- ---- what leads on from a place

  pub onward_is : (left next a : ℕ) (place : Place) (found : Option Found) (leg : Option Leg) (finish : Option ℕ)
      → a ≡ sid_address net next → found ≡ found_in net a steps left place → leg ≡ leg_to net steps next found
      → finish ≡ finish_to net intent.inner steps next found
      → Path Onward (record { leg = leg; finish = finish }) (onward_from net intent steps left place next)
  onward_is left next a place found leg finish address found_is leg_is finish_is =
      let way : found ≡ found_in net (sid_address net next) steps left place
      = found_is ∙ ap (λ (d : ℕ). found_in net d steps left place) address in
      ap₂ (λ (l : Option Leg) (f : Option ℕ). record { leg = l; finish = f }) (leg_is ∙ ap (leg_to net steps next) way)
      (finish_is ∙ ap (finish_to net intent.inner steps next) way)

  pub onward_more : (left : ℕ) (place : Place) (count : ℕ) (row more : List Onward) (onward : Onward)
      → AreOnward net intent steps left place count row → onward ≡ onward_from net intent steps left place count
      → more ≡ row ++ onward ∷ [] → AreOnward net intent steps left place (count + 1) more
  onward_more left place count row more onward are is e =
      let m =
      list_more (λ (next : ℕ). Some (onward_from net intent steps left place next)) count row more onward are.long are.each (ap Some is)
      e in
      record { long = m.0; each = m.1 }

  -- ---- starts

  pub row_from : (position left : ℕ) (via : Option ℕ) (place : Place) (row : List Onward) → left ≡ length steps - position
      → origin_of net intent steps position via ≡ Some place → AreOnward net intent steps left place (length net.sids) row
      → IsRowFrom net intent steps position via row
  row_from position left via place row left_is start are next = by_place (cases_lt next (length net.sids))
    where
      way : way_found net intent steps position via (sid_address net next) ≡ found_in net (sid_address net next) steps left place
      way =
          ap (option_and_then (found_in net (sid_address net next) steps (length steps - position))) start
          ∙ ap (λ (k : ℕ). found_in net (sid_address net next) steps k place) (sym left_is)

      by_place : (next < length net.sids) ⊎ (length net.sids ≤ next) → onward_at row next ≡ onward_of net intent steps position via next
      by_place (inl less) =
          ap onward_or_none (are.each next less)
          ∙ sym (ap₂ (λ (l : Option Leg) (f : Option ℕ). record { leg = l; finish = f }) (ap (leg_to net steps next) way)
          (ap (finish_to net intent.inner steps next) way))
      by_place (inr past) =
          let long = are.long in
          let found = way_found net intent steps position via (sid_address net next) in
          let none : slice_get net.sids next ≡ None = slice_get_past net.sids next past in
          ap onward_or_none (slice_get_past row next (omega (arith, long, past)))
          ∙ sym (ap₂ (λ (l : Option Leg) (f : Option ℕ). record { leg = l; finish = f })
          (ap (λ (o : Option SidEntry). if sid_goes_on o then option_and_then (leg_found net steps next) found else None) none)
          (ap (λ (o : Option SidEntry). if sid_exposes intent.inner o then option_and_then (finish_found net steps next) found else None)
          none))

  -- from the headend
  pub first_start : origin_of net intent steps 0 None
      ≡ place_from net intent None
  first_start = ap (λ (b : Bool). if b && (0 == 0) then place_from net intent None else None) (le-leb 0 (length steps) (omega arith))

  -- behind a SID, by whether it is one of the position
  pub start_behind_law : (position via : ℕ) → position ≤ length steps → is_sid_at net intent steps position via ≡ true
      → middle_place net via ≡ origin_of net intent steps position (Some via)
  start_behind_law position via within at =
      by_sid (slice_get net.sids via)
      ∙ sym (ap (λ (b : Bool). if b && (is_sid_at net intent steps position via && is_middle net via)
      then place_from net intent (Some via) else None)
      (le-leb position (length steps) within)
      ∙ ap (λ (b : Bool). if b && is_middle net via then place_from net intent (Some via) else None) at)
    where
      by_test : (b : Bool) (s : SidEntry) → (if b then Some (place_behind via s) else None)
          ≡ (if b then option_map (place_behind via) (Some s) else None)
      by_test true s = refl
      by_test false s = refl

      by_sid : (o : Option SidEntry) → middle_place_by via o ≡ (if sid_goes_on o then option_map (place_behind via) o else None)
      by_sid None = refl
      by_sid (Some s) = by_test (takes_step s) s

  pub no_start : (position via : ℕ) → is_sid_at net intent steps position via ≡ false → None ≡ origin_of net intent steps position (Some via)
  no_start position via at =
      sym (ap (λ (b : Bool). if nat_le position (length steps) && (b && is_middle net via)
      then place_from net intent (Some via) else None) at
      ∙ by_low (nat_le position (length steps)))
    where
      by_low : (b : Bool) → Path (Option Place) (if b && false then place_from net intent (Some via) else None) None
      by_low true = refl
      by_low false = refl

  pub start_place : Keeps net → AreSteps net intent steps → (position : ℕ) (via : Option ℕ) (start : Option Place)
      → start ≡ origin_of net intent steps position via → IfSome start (IsPlace net)
  start_place keeps are position via start e = by_start start e
    where
      by_test : (b : Bool) (place : Place) → is_origin net intent steps position via ≡ b
          → Some place ≡ (if b then place_from net intent via else None) → IsPlace net place
      by_test true place is e = (start_at_law net keeps intent steps are position via place is (sym e)).is_place
      by_test false place is e = absurd (cc)

      by_start : (o : Option Place) → o ≡ origin_of net intent steps position via → IfSome o (IsPlace net)
      by_start None e = tt
      by_start (Some place) e = by_test (is_origin net intent steps position via) place refl e

  -- ---- the rows of a position

  pub record AreRowsBelow (position count : ℕ) (rows : List (List Onward)) : Type 0 where
    pub long : length rows ≡ count
    pub each : (via : ℕ) (row : List Onward) → slice_get rows via ≡ Some row → IsRowFrom net intent steps position (Some via) row

  pub row_more : (position count : ℕ) (rows more : List (List Onward)) (row : List Onward) → AreRowsBelow position count rows
      → IsRowFrom net intent steps position (Some count) row → more ≡ rows ++ row ∷ [] → AreRowsBelow position (count + 1) more
  row_more position count rows more row are is e =
      let m =
      each_more (λ (via : ℕ) (xs : List Onward). IsRowFrom net intent steps position (Some via) xs) count rows more row are.long are.each is
      e in
      record { long = m.0; each = m.1 }

  -- ---- the rows of all positions

  pub further_more : (count : ℕ) (further more : List (List (List Onward))) (rows : List (List Onward))
      → AreFurther net intent steps count further → AreRowsFrom net intent steps count rows → more ≡ further ++ rows ∷ []
      → AreFurther net intent steps (count + 1) more
  further_more count further more rows are is e =
      let m = each_more (AreRowsFrom net intent steps) count further more rows are.long are.each is e in
      record { long = m.0; each = m.1 }
