-- Where the walk stands at each position, and the SIDs of each position.
use Rattle.std.proofs.Common.{◌≡◌, ℕ, suc, ◌+◌, ◌<◌, Bool, true, false, List, [], ◌∷◌, ◌++◌, length, get_or, take, drop, Option, Some, None, is_some, slice_get, slice_index, Contains, refl, sym, ◌∙◌, ap, arith, add-one}
use Rattle.std.specs.Option.{option_and_then}
use Rattle.std.proofs.lemmas.List.{take-append-drop}
use Rattle.std.proofs.lemmas.Option.{slice_get-get_or, slice_get_within}
use Rattle.std.proofs.Math.Seq.{drop-cons, take-suc}
use Rattle.net_model.specs.Network.{Network}
use Rattle.net_model.specs.NetworkKeeps.{Keeps}
use Rattle.intent_reader.specs.declared.intent.Intent.{Intent}
use Rattle.intent_traces.specs.declared.trace_steps.TraceStep.{TraceStep}
use Rattle.choice_graph.proofs.GraphLists.{list_more}
use Rattle.loose_spec.specs.LooseSids.{is_sid_at, sid_suits, step_before}
use Rattle.loose_spec.specs.LooseSteps.{node_after, node_at, stand_after}
use Rattle.loose_legs_theory.specs.LooseStepsTerms.{AreSteps}
use Rattle.loose_spec.specs.LooseLegsValue.{placed, sids_below, sids_of}
use Rattle.loose_legs_theory.proofs.LooseLegPositions.{contained_sid, sid_there}
use Rattle.loose_legs_theory.proofs.LooseLegStanding.{stand_append}
use Rattle.loose_legs.specs.LooseTable.{AreRows, AreStands}

module _ (net : Network) (intent : Intent) (steps : List TraceStep) where
  -- ---- the SIDs of a position

  pub sids_below_zero : (position : ℕ) → sids_below net intent steps position 0 ≡ []
  unfolding sids_below
  sids_below_zero position = refl

  suc_in : (position k : ℕ) → is_sid_at net intent steps position k ≡ true
      → sids_below net intent steps position (suc k) ≡ placed net k (sids_below net intent steps position k)
  unfolding sids_below
  suc_in position k e = rw e refl

  suc_out : (position k : ℕ) → is_sid_at net intent steps position k ≡ false
      → sids_below net intent steps position (suc k) ≡ sids_below net intent steps position k
  unfolding sids_below
  suc_out position k e = rw e refl

  pub row_in : (position k at : ℕ) (xs ys : List ℕ) → xs ≡ sids_below net intent steps position k
      → is_sid_at net intent steps position k ≡ true
      → placed net k xs ≡ take at xs ++ k ∷ drop at xs → ys ≡ take at xs ++ k ∷ drop at xs
      → ys ≡ sids_below net intent steps position (k + 1)
  row_in position k at xs ys e f g h =
      h ∙ sym g ∙ ap (placed net k) e ∙ sym (ap (sids_below net intent steps position) (add-one k) ∙ suc_in position k f)

  pub row_out : (position k : ℕ) (xs ys : List ℕ) → xs ≡ sids_below net intent steps position k
      → is_sid_at net intent steps position k ≡ false → ys ≡ xs → ys ≡ sids_below net intent steps position (k + 1)
  row_out position k xs ys e f h =
      h ∙ e ∙ sym (ap (sids_below net intent steps position) (add-one k) ∙ suc_out position k f)

  -- a SID of a position is there
  pub sid_within : Keeps net → (position n : ℕ) → Contains (sids_of net intent steps position) n → n < length net.sids
  sid_within keeps position n h =
      let s = sid_there net keeps intent steps position n (contained_sid net keeps intent steps position n h) in
      slice_get_within net.sids n s.0 s.1

  -- a SID is one of the position, where the walk stands at a node
  pub at_stands : (position stands n : ℕ) (result test : Bool) → node_at net intent steps position ≡ Some stands
      → result ≡ sid_suits n (slice_get steps position) (Some stands) (step_before steps position) (slice_get net.sids n)
      → result ≡ test → is_sid_at net intent steps position n ≡ test
  at_stands position stands n result test at e is =
      ap (λ (o : Option ℕ). sid_suits n (slice_get steps position) o (step_before steps position) (slice_get net.sids n)) at ∙ sym e ∙ is

  -- ---- where the walk stands, step by step

  pub step_opens : AreSteps net intent steps → (i node : ℕ) (step : TraceStep) → node_at net intent steps i ≡ Some node → i < length steps
      → get_or steps i step ≡ step → is_some (node_after net node step) ≡ true
  step_opens are i node step stands low e =
      let split : stand_after net intent.headend steps ≡ stand_after net node (drop i steps)
      = ap (stand_after net intent.headend) (sym (take-append-drop i steps))
      ∙ stand_append net intent.headend (take i steps) (drop i steps)
      ∙ ap (option_and_then (λ n. stand_after net n (drop i steps))) stands in
      let rest : drop i steps ≡ step ∷ drop (suc i) steps
      = drop-cons steps i step low ∙ ap (λ (t : TraceStep). t ∷ drop (suc i) steps) e in
      opens (node_after net node step) (ap is_some (sym (split ∙ ap (stand_after net node) rest)) ∙ are.stands)
    where
      opens : (o : Option ℕ) → is_some (option_and_then (λ next. stand_after net next (drop (suc i) steps)) o) ≡ true → is_some o ≡ true
      opens None h = h
      opens (Some n) h = refl

  pub step_lands : (i node to : ℕ) (step : TraceStep) → node_at net intent steps i ≡ Some node → i < length steps
      → get_or steps i step ≡ step → node_after net node step ≡ Some to → node_at net intent steps (i + 1) ≡ Some to
  step_lands i node to step stands low e after =
      ap (λ n. stand_after net intent.headend (take n steps)) (add-one i)
      ∙ ap (stand_after net intent.headend) (take-suc steps i step low ∙ ap (λ (t : TraceStep). take i steps ++ t ∷ []) e)
      ∙ stand_append net intent.headend (take i steps) (step ∷ [])
      ∙ ap (option_and_then (λ n. stand_after net n (step ∷ []))) stands
      ∙ ap (option_and_then (λ n. stand_after net n [])) after

  pub stands_more : (count : ℕ) (stands more : List ℕ) (node : ℕ) → AreStands net intent steps count stands
      → node_at net intent steps count ≡ Some node → more ≡ stands ++ node ∷ [] → AreStands net intent steps (count + 1) more
  stands_more count stands more node are is e =
      let m =
      list_more (node_at net intent steps) count stands more node are.long (λ position low. sym (are.each position low)) (sym is) e in
      record { long = m.0; each = λ position low. sym (m.1 position low) }

  pub stands_first : (items : List ℕ) → items ≡ [] ++ intent.headend ∷ [] → AreStands net intent steps (0 + 1) items
  stands_first items e = stands_more 0 [] items intent.headend (record { long = refl; each = λ position low. absurd (omega arith) }) refl e

  pub stands_here : (stands : List ℕ) → AreStands net intent steps (length steps + 1) stands → (position : ℕ) → position < length steps + 1
      → node_at net intent steps position ≡ Some (slice_index stands position)
  stands_here stands are position low =
      let long = are.long in are.each position low ∙ slice_get-get_or stands position 0 (omega (arith, long, low))

  -- ---- the rows of the positions

  pub rows_more : (count : ℕ) (rows more : List (List ℕ)) (row : List ℕ) → AreRows net intent steps count rows
      → row ≡ sids_of net intent steps count → more ≡ rows ++ row ∷ [] → AreRows net intent steps (count + 1) more
  rows_more count rows more row are is e =
      let m =
      list_more (λ (position : ℕ). Some (sids_of net intent steps position)) count rows more row are.long are.each (ap Some is) e in
      record { long = m.0; each = m.1 }
