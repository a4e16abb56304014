-- A stage that has a route in a packet's own description is the same by tables that keep its matches.
use Rattle.std.proofs.Common.{◌≡◌, ◌≢◌, ℕ, Bool, true, false, if◌then◌else◌, is_some, refl, sym, ap, ◌∙◌}
use Rattle.srv6_rules.specs.declared.family.Family.{Family}
use Rattle.srv6_rules.specs.declared.reason.Reason.TheVariants as reasons
use Rattle.srv6_rules.specs.Packet.{Content, Packet, V6, V4, Unreadable}
use Rattle.srv6_rules.specs.Packet4.{Packet4, destination4}
use Rattle.net_model.specs.declared.net.Hit.{Hit}
use Rattle.net_model.specs.declared.net.Hit.TheVariants as hits
use Rattle.net_model.specs.Network.{Network}
use Rattle.net_model.specs.Best.{lookup_of}
use Rattle.walk_rules.specs.declared.place.How.{How}
use Rattle.walk_rules.specs.declared.place.How.TheVariants.{Arrived, Submitted, Through}
use Rattle.walk_rules.specs.declared.place.Place.{Place}
use Rattle.walk_rules.specs.Way.{Way, NoWay, Over, Own, Into, is_multicast_of, way_by, way_by_hit, way_of}
use Rattle.walk_rules.specs.Treatment.{Gave, error_of, free_step_of, judged, step_of, treated, treated4}
use Rattle.walk_rules.specs.Walk.{Stage, choice_at, stage_of}
use Rattle.packet_walk.specs.Flight.{InFlight, advanced, left_by, stage_in, staged}
use Rattle.update_flight.specs.MomentTables.{HasRoute}
use Rattle.update_flight.specs.MomentTablesTerms.{AreAlike, KeepsOwn}

-- tables that look up alike keep all matches
pub kept_alike : (own now : Network) → AreAlike own now → KeepsOwn own now
kept_alike own now alike = record {
  nodes = alike.nodes;
  links = alike.links;
  routes = alike.routes;
  policies = alike.policies;
  sids = alike.sids;
  matches = λ node table family a some. alike.finds node table family a;
}

module _ (own now : Network) (keeps : KeepsOwn own now) where
  -- the network of the moment, with the parts of the packet's own
  abbrev same : Network
  same = record now { nodes = own.nodes; links = own.links; routes = own.routes; policies = own.policies; sids = own.sids }

  is_same : now ≡ same
  is_same = λ i. record now {
    nodes = keeps.nodes i;
    links = keeps.links i;
    routes = keeps.routes i;
    policies = keeps.policies i;
    sids = keeps.sids i;
  }

  finds : (node table : ℕ) (family : Family) (a : ℕ) → lookup_of own node table family a ≢ hits.Nothing
      → lookup_of same node table family a ≡ lookup_of own node table family a
  finds node table family a some =
      ap (λ (net : Network). lookup_of net node table family a) (sym is_same) ∙ keeps.matches node table family a some

  -- the way is the same

  way_hit : (lower : Bool) (h g : Hit) → (h ≢ hits.Nothing → g ≡ h) → way_by_hit own lower h ≢ NoWay reasons.NoRoute
      → way_by_hit same lower g ≡ way_by_hit own lower h
  way_hit lower h g found route =
      let e : g ≡ h = found (λ none. route (ap (way_by_hit own lower) none)) in ap (way_by_hit same lower) e

  way_unless : (multicast lower : Bool) (h g : Hit) → (h ≢ hits.Nothing → g ≡ h)
      → (if multicast then NoWay reasons.Multicast else way_by_hit own lower h) ≢ NoWay reasons.NoRoute
      → (if multicast then NoWay reasons.Multicast else way_by_hit same lower g)
      ≡ (if multicast then NoWay reasons.Multicast else way_by_hit own lower h)
  way_unless true lower h g found route = refl
  way_unless false lower h g found route = way_hit lower h g found route

  way_how : (node : ℕ) (how : How) (family : Family) (a : ℕ) → way_by own node how family a ≢ NoWay reasons.NoRoute
      → way_by same node how family a ≡ way_by own node how family a
  way_how node (Arrived table) family a route =
      way_unless (is_multicast_of family a) true (lookup_of own node table family a) (lookup_of same node table family a)
      (finds node table family a) route
  way_how node (Submitted table) family a route =
      way_unless (is_multicast_of family a) false (lookup_of own node table family a) (lookup_of same node table family a)
      (finds node table family a) route
  way_how node (Through sid lower) family a route = refl

  way_same : (place : Place) (a : ℕ) → way_of own place a ≢ NoWay reasons.NoRoute → way_of same place a ≡ way_of own place a
  unfolding way_of
  way_same place a route = way_how place.node place.how place.family a route

  -- and so is what is done with a packet on it

  treated_same : (node : ℕ) (way : Way) (p : Packet) (choice : ℕ) → treated same node way p choice ≡ treated own node way p choice
  unfolding error_of
  treated_same node (NoWay reason) p choice = refl
  treated_same node (Over set lower) p choice = refl
  treated_same node Own p choice = refl
  treated_same node (Into n) p choice = refl

  treated4_same : (node : ℕ) (way : Way) (p : Packet4) (choice : ℕ) → treated4 same node way p choice ≡ treated4 own node way p choice
  unfolding error_of
  treated4_same node (NoWay reason) p choice = refl
  treated4_same node (Over set lower) p choice = refl
  treated4_same node Own p choice = refl
  treated4_same node (Into n) p choice = refl

  judged_same : (node : ℕ) (content : Content) (gave : Gave) → judged same node content gave ≡ judged own node content gave
  unfolding error_of
  judged_same node content gave = refl

  step_same : (place : Place) (content : Content) (choice : ℕ) → HasRoute (stage_of own place content choice)
      → step_of same place content choice ≡ step_of own place content choice
  unfolding error_of
  step_same place (Unreadable bytes reason) choice route = refl
  step_same place (V6 p) choice route =
      judged_same place.node (V6 p) (free_step_of same place (V6 p) choice)
      ∙ ap (judged own place.node (V6 p))
      (treated_same place.node (way_of same place p.destination) p choice
      ∙ ap (λ (way : Way). treated own place.node way p choice)
      (way_same place p.destination
      (λ (away : way_of own place p.destination ≡ NoWay reasons.NoRoute). route
      (is_some (error_of own place.node reasons.NoRoute 0 (V6 p)))
      (ap (λ (way : Way). (judged own place.node (V6 p) (treated own place.node way p choice)).outcome) away))))
  step_same place (V4 p) choice route =
      judged_same place.node (V4 p) (free_step_of same place (V4 p) choice)
      ∙ ap (judged own place.node (V4 p))
      (treated4_same place.node (way_of same place (destination4 p)) p choice
      ∙ ap (λ (way : Way). treated4 own place.node way p choice)
      (way_same place (destination4 p)
      (λ (away : way_of own place (destination4 p) ≡ NoWay reasons.NoRoute). route
      (is_some (error_of own place.node reasons.NoRoute 0 (V4 p)))
      (ap (λ (way : Way). (judged own place.node (V4 p) (treated4 own place.node way p choice)).outcome) away))))

  pub own_step : (place : Place) (content : Content) (choice : ℕ) → HasRoute (stage_of own place content choice)
      → step_of now place content choice ≡ step_of own place content choice
  own_step place content choice route =
      ap (λ (net : Network). step_of net place content choice) is_same ∙ step_same place content choice route

  -- a packet takes the same stage, and is the same after it

  pub own_stage : (p : InFlight) → HasRoute (stage_in own p) → stage_in now p ≡ stage_in own p
  own_stage p route =
      ap (λ (gave : Gave). stage p gave) (own_step p.place p.content (choice_at p.choices p.decisions) route) where
        stage : InFlight → Gave → Stage
        stage p gave = record { place = p.place; before = p.content; gave = gave }

  advanced_same : (s : Stage) (p : InFlight)
      → advanced same s.gave.outcome (left_by same p s) p ≡ advanced own s.gave.outcome (left_by own p s) p
  advanced_same s p = refl

  pub own_staged : (p : InFlight) → HasRoute (stage_in own p) → staged now p ≡ staged own p
  own_staged p route =
      let by : Network → Stage → InFlight = λ net s. advanced net s.gave.outcome (left_by net p s) p in
      ap (by now) (own_stage p route)
      ∙ (ap (λ (net : Network). by net (stage_in own p)) is_same
      ∙ advanced_same (stage_in own p) p)

  -- by tables that look up alike it is the same, whatever it is

  module _ (all : (node table : ℕ) (family : Family) (a : ℕ) → lookup_of now node table family a ≡ lookup_of own node table family a) where
    finds_all : (node table : ℕ) (family : Family) (a : ℕ) → lookup_of same node table family a ≡ lookup_of own node table family a
    finds_all node table family a = ap (λ (net : Network). lookup_of net node table family a) (sym is_same) ∙ all node table family a

    way_by_all : (node : ℕ) (how : How) (family : Family) (a : ℕ) → way_by same node how family a ≡ way_by own node how family a
    way_by_all node (Arrived table) family a =
        ap (λ (h : Hit). if is_multicast_of family a then NoWay reasons.Multicast else way_by_hit own true h) (finds_all node table family a)
    way_by_all node (Submitted table) family a =
        ap (λ (h : Hit). if is_multicast_of family a then NoWay reasons.Multicast else way_by_hit own false h)
        (finds_all node table family a)
    way_by_all node (Through sid lower) family a = refl

    way_all : (place : Place) (a : ℕ) → way_of same place a ≡ way_of own place a
    unfolding way_of
    way_all place a = way_by_all place.node place.how place.family a

    step_all : (place : Place) (content : Content) (choice : ℕ) → step_of same place content choice ≡ step_of own place content choice
    unfolding error_of
    step_all place (Unreadable bytes reason) choice = refl
    step_all place (V6 p) choice =
        judged_same place.node (V6 p) (free_step_of same place (V6 p) choice)
        ∙ ap (judged own place.node (V6 p))
        (treated_same place.node (way_of same place p.destination) p choice
        ∙ ap (λ (way : Way). treated own place.node way p choice) (way_all place p.destination))
    step_all place (V4 p) choice =
        judged_same place.node (V4 p) (free_step_of same place (V4 p) choice)
        ∙ ap (judged own place.node (V4 p))
        (treated4_same place.node (way_of same place (destination4 p)) p choice
        ∙ ap (λ (way : Way). treated4 own place.node way p choice) (way_all place (destination4 p)))

    pub all_step : (place : Place) (content : Content) (choice : ℕ) → step_of now place content choice ≡ step_of own place content choice
    all_step place content choice =
        ap (λ (net : Network). step_of net place content choice) is_same ∙ step_all place content choice

    pub all_stage : (p : InFlight) → stage_in now p ≡ stage_in own p
    all_stage p =
        ap (λ (gave : Gave). stage p gave) (all_step p.place p.content (choice_at p.choices p.decisions)) where
          stage : InFlight → Gave → Stage
          stage p gave = record { place = p.place; before = p.content; gave = gave }

    pub all_staged : (p : InFlight) → staged now p ≡ staged own p
    all_staged p =
        let by : Network → Stage → InFlight = λ net s. advanced net s.gave.outcome (left_by net p s) p in
        ap (by now) (all_stage p)
        ∙ (ap (λ (net : Network). by net (stage_in own p)) is_same
        ∙ advanced_same (stage_in own p) p)
