-- The place from which a packet goes to the next SID, and the way from it by what was gathered.
use Rattle.std.proofs.Common.{◌≡◌, ℕ, ◌+◌, ◌<◌, ◌≤◌, true, List, [], ◌∷◌, length, take, drop, Option, Some, None, refl, sym, ◌∙◌, ap, subst, arith, add-one}
use Rattle.std.specs.Prelude.{is_some, IfSome}
use Rattle.std.proofs.lemmas.List.{length-drop}
use Rattle.std.proofs.lemmas.Bool.{false≢true}
use Rattle.std.proofs.lemmas.Option.{get_or_from_slice_get}
use Rattle.net_model.specs.Network.{Network}
use Rattle.net_model.specs.NetworkKeeps.{Keeps}
use Rattle.walk_rules.specs.declared.place.Place.{Place}
use Rattle.intent_reader.specs.IntentRules.{stand_after, node_after}
use Rattle.intent_reader.specs.IntentRulesTerms.{IsIntent}
use Rattle.intent_reader.specs.declared.intent.Step.{Step}
use Rattle.intent_reader.specs.declared.intent.Intent.{Intent}
use Rattle.leg_table.specs.declared.step_links.Behind.{Behind}
use Rattle.leg_table.specs.StrictLegs.{place_from}
use Rattle.leg_table.specs.StrictLegsTerms.{is_origin, origin_of}
use Rattle.leg_table.specs.declared.transit_table.TransitTable.{TransitTable}
use Rattle.leg_table.specs.PositionSids.{node_at}
use Rattle.leg_table.specs.TransitTables.{way_along, stand, AreWays, IsReach, AreLater, way_at, IsOrigin}
use Rattle.leg_table.proofs.StrictOptions.{drop_first, then_some, if_some, some_same}
use Rattle.leg_table.proofs.TransitFacts.{start_facts, intent_stands, stand_after_split}
use Rattle.leg_table.proofs.TransitTableRows.{after_within, after_opens, after_stands}
use Rattle.leg_table.proofs.Placing.{step_lands}
use Rattle.leg_table.proofs.TransitTableLemmas.{way_few, ways_few}

-- the walk stands at nodes that are there
stands_within : (net : Network) → Keeps net → (node to : ℕ) (ts : List Step) → node < length net.nodes
    → stand_after net node ts ≡ Some to → to < length net.nodes
stands_within net keeps node to [] here e = let same : node ≡ to = some_same node to e in omega arith
stands_within net keeps node to (t ∷ ts) here e =
    let got = then_some (λ next. stand_after net next ts) (node_after net node t) to e in
    stands_within net keeps got.0 to ts (after_within net keeps node got.0 t here got.1) got.2

some_there : (o : Option ℕ) → is_some o ≡ true → (x : ℕ) × (o ≡ Some x)
some_there None h = absurd (false≢true h)
some_there (Some x) h = (x, refl)

module _ (net : Network) (keeps : Keeps net) (intent : Intent) (is_intent : IsIntent net intent) where
  pub start_is : (position : ℕ) (via : Option ℕ) (place : Place) → Some place ≡ origin_of net intent position via
      → IsOrigin net intent position place
  start_is position via place h =
      let got = if_some (is_origin net intent position via) (place_from net intent via) place (sym h) in
      let f = start_facts net keeps intent is_intent position via place got.0 got.1 in
      let head = (intent_stands net intent is_intent).3 in
      record {
        is_place = (stands_within net keeps intent.headend place.node (take position intent.steps) head f.stands, f.how);
        within = f.within;
        stands = f.stands;
        family = f.family;
        rest = f.rest;
      }

  pub place_is : (position : ℕ) (via : Option ℕ) (o : Option Place) → o ≡ origin_of net intent position via
      → IfSome o (λ place. IsOrigin net intent position place)
  place_is position via None h = tt
  place_is position via (Some place) h = start_is position via place h

  -- the steps that are left start where the place is
  pub rest_stands : (position node : ℕ) → stand_after net intent.headend (take position intent.steps) ≡ Some node
      → is_some (stand_after net node (drop position intent.steps)) ≡ true
  rest_stands position node stands =
      ap is_some (sym (stand_after_split net intent.headend node intent.steps position stands)) ∙ (intent_stands net intent is_intent).0

  -- a way from a start leaves some of the steps, and lowers the hop limit at most once for each
  pub few_on : (position : ℕ) (place : Place) → IsOrigin net intent position place → (next : ℕ) (way : Option Behind)
      → way ≡ way_along net (drop position intent.steps) place next
      → IfSome way (λ b. (b.left ≤ length intent.steps) × (b.lowered ≤ 48))
  few_on position place start next None e = tt
  few_on position place start next (Some b) e =
      let few = way_few net keeps (drop position intent.steps) place next b start.is_place.1 start.rest (sym e) in
      let len = length-drop position intent.steps in
      let all = (intent_stands net intent is_intent).1 in
      (omega (arith, few.0, len), omega (arith, few.1, len, all))

  -- the ways from where the step that starts at a position ends
  pub later_from : (position at : ℕ) (reach : TransitTable) (ways : List (Option Behind)) → position < length intent.steps
      → node_at net intent position ≡ Some at
      → ((to : ℕ) → node_at net intent (position + 1) ≡ Some to → IsReach net (drop (position + 1) intent.steps) to reach)
      → ways ≡ reach.arrived.items
      → AreLater net at (drop position intent.steps) ways × ((n : ℕ) → IfSome (way_at ways n) (λ b. b.lowered ≤ 48))
  later_from position at reach ways below stands is e = by_rest (drop position intent.steps) refl
    where
      by_rest : (ts : List Step) → drop position intent.steps ≡ ts
          → AreLater net at ts ways × ((n : ℕ) → IfSome (way_at ways n) (λ b. b.lowered ≤ 48))
      by_rest [] f = let l = ap length f in let k = length-drop position intent.steps in absurd (omega arith)
      by_rest (t ∷ ts) f =
          let parts = drop_first intent.steps position t ts f in
          let tail : drop (position + 1) intent.steps ≡ ts = ap (λ (n : ℕ). drop n intent.steps) (add-one position) ∙ parts.1 in
          let get = get_or_from_slice_get intent.steps position t t parts.0 in
          let on : (to : ℕ) → node_after net at t ≡ Some to → AreWays net ts (stand to true) ways
          = λ to after.
          subst (λ (l : List Step). AreWays net l (stand to true) ways) tail
          (subst (AreWays net (drop (position + 1) intent.steps) (stand to true)) (sym e)
          (is to (step_lands net intent position at to t stands below get after)).arrived) in
          let rest : is_some (stand_after net at (t ∷ ts)) ≡ true
          = ap (λ (l : List Step). is_some (stand_after net at l)) (sym f) ∙ rest_stands position at stands in
          let to = some_there (node_after net at t) (after_opens net at t ts rest) in
          let few : length ts ≤ 48 =
          let l = ap length f in
          let k = length-drop position intent.steps in
          let all = (intent_stands net intent is_intent).1 in
          omega (arith, all) in
          (on, ways_few net keeps ts to.0 ways true (on to.0 to.1) (after_stands net at to.0 t ts rest to.1) few)
