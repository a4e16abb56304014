-- In a flat network all choices come to the same for any two own addresses of a SID.
use Rattle.std.proofs.Common.{◌≡◌, ℕ, zero, suc, List, [], ◌∷◌, ◌++◌, length, Some, slice_get, refl, sym, ap, ap₂, subst}
use Rattle.srv6_rules.specs.declared.family.Family.TheVariants as families
use Rattle.srv6_rules.specs.declared.sid.SidEntry.{SidEntry}
use Rattle.net_model.specs.Network.{Network}
use Rattle.net_flatness.specs.NestsTerms.{IsOwn}
use Rattle.walk_rules.specs.declared.place.Place.{Place}
use Rattle.walk_rules.specs.Way.{Way, way_of}
use Rattle.intent_traces.specs.declared.trace_steps.TraceStep.{TraceStep}
use Rattle.choice_graph.specs.declared.vertices.Vertex.{Vertex}
use Rattle.choice_graph.specs.declared.vertices.FirstMove.{FirstMove}
use Rattle.choice_graph.specs.FoundInGraphs.{found_from}
use Rattle.loose_walks.specs.WayGraphs.{Numbers, arrived, found_in, lowers_by, numbers_of, row_from, rows_of, vertex_by, vertex_of_node}
use Rattle.leg_table.specs.StrictLegsTerms.{IsAddressOf}
use Rattle.leg_table.specs.PositionSids.{first_address, sid_address}
use Rattle.leg_table.proofs.StrictAlike.{way_alike}
use Rattle.leg_table.proofs.FlatNets.{FlatFacts}
use Rattle.loose_spec.specs.LooseSteps.{steps_left}

-- two destinations have the same way from each place
abbrev pub AreAlike : Network → ℕ → ℕ → Type 0
AreAlike net a b = (place : Place) → place.family ≡ families.V6 → way_of net place a ≡ way_of net place b

module _ (net : Network) (a b : ℕ) (alike : AreAlike net a b) where
  row_same : (numbers : Numbers) (ts : List TraceStep) (node count : ℕ)
      → row_from (vertex_of_node net numbers a ts) node count ≡ row_from (vertex_of_node net numbers b ts) node count
  row_same numbers ts node zero = refl
  row_same numbers ts node (suc count) =
      ap₂ (λ (s : Vertex) (ss : List Vertex). s ∷ ss) (ap (vertex_by net numbers ts) (alike (arrived node) refl))
      (row_same numbers ts (suc node) count)

  rows_same : (numbers : Numbers) (ts : List TraceStep) → rows_of net numbers a ts ≡ rows_of net numbers b ts
  rows_same numbers [] = row_same numbers [] 0 (length net.nodes)
  rows_same numbers (t ∷ ts) =
      ap₂ (λ (xs ys : List Vertex). xs ++ ys) (rows_same numbers ts) (row_same numbers (t ∷ ts) 0 (length net.nodes))

  abbrev start_with : Numbers → List TraceStep → Way → FirstMove
  start_with numbers ts w = record { lowers = lowers_by w; vertex = vertex_by net numbers ts w }

  pub found_same : (steps : List TraceStep) (left : ℕ) (place : Place) → place.family ≡ families.V6
      → found_in net a steps left place ≡ found_in net b steps left place
  found_same steps left place v6 =
      ap₂ (λ (g : List Vertex) (s : FirstMove). found_from g s) (rows_same (numbers_of net (length steps)) steps)
      (ap (start_with (numbers_of net (length steps)) (steps_left steps left)) (alike place v6))

-- an address of a SID and the first of its prefix
pub address_alike : (net : Network) → FlatFacts net → (n : ℕ) (s : SidEntry) → slice_get net.sids n ≡ Some s → (address : ℕ)
    → IsAddressOf net n address → AreAlike net address (sid_address net n)
address_alike net facts n s there address is place v6 =
    let value : s.prefix.value ≡ sid_address net n = ap first_address (sym there) in
    way_alike net facts n s there address (sid_address net n) (is.own s there) (subst (IsOwn net s) value (facts.first n s there)) is.kind
    place v6
