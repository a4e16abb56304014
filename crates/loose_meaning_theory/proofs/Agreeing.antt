-- Only so many choices matter to a packet that is handed over by SIDs that bind no policy as its hop limit says.
use Rattle.std.proofs.Common.{◌≡◌, ℕ, zero, suc, ◌+◌, ◌-◌, ◌<◌, ◌≤◌, ◌⊎◌, inl, inr, Bool, true, false, nat_le, if◌then◌else◌, List, Option, Some, None, slice_get, refl, sym, ◌∙◌, ap, subst, arith}
use Rattle.std.specs.Option.{option_map}
use Rattle.std.proofs.lemmas.Bool.Decides.{leb_tells}
use Rattle.srv6_rules.specs.declared.family.Family.{Family}
use Rattle.srv6_rules.specs.declared.sid.SidEntry.{SidEntry}
use Rattle.srv6_rules.specs.Behaviours.{behaviour_policy}
use Rattle.srv6_rules.specs.Endpoint.{Delivered, Endpoint, Exposed, Onward, Refused, at_address}
use Rattle.srv6_rules.specs.Packet.{Packet, Content, V6, V4, Unreadable}
use Rattle.net_model.specs.Network.{Network}
use Rattle.walk_rules.specs.declared.place.How.{How}
use Rattle.walk_rules.specs.declared.place.How.TheVariants.{Arrived}
use Rattle.walk_rules.specs.declared.place.Place.{Place}
use Rattle.walk_rules.specs.declared.place.Outcome.{Outcome}
use Rattle.walk_rules.specs.declared.place.Outcome.TheVariants as outcomes
use Rattle.walk_rules.specs.WalkLawsTerms.{IsLoweredByOne}
use Rattle.walk_rules.specs.Treatment.{Gave, free_step_of, goes, lowered, member_of, treated, treated_at_address}
use Rattle.walk_rules.specs.Walk.{arrival, decisions, free_walk_of, next_place}
use Rattle.walk_rules.specs.Way.{Way, NoWay, Over, Own, Into, way_of}
use Rattle.walk_rules.proofs.PublicLaws.{free_again, free_less, sent_high, sent_low}
use Rattle.intent_reader.specs.declared.intent.Intent.{Intent}
use Rattle.intent_traces.specs.declared.trace_steps.TraceStep.{TraceStep}
use Rattle.loose_walks.specs.WayGraphs.{lowers_by}
use Rattle.loose_walks.specs.WalkStops.{ends_in}
use Rattle.loose_walks.specs.WalkStopsTerms.{SendsNothing}
use Rattle.loose_walks.proofs.Quiet.{into_quiet}
use Rattle.loose_walks.proofs.Simulating.{family_lowers, walk_none}
use Rattle.leg_table.specs.OneLegLaws.{HandsOver}
use Rattle.leg_table.specs.Realizes.{headend_place}
use Rattle.leg_table.specs.PositionSids.{binds, is_binding, sid_binds}
use Rattle.leg_table.specs.WalkTrace.{Crossed, Handed}
use Rattle.leg_table.proofs.StrictOptions.{map_some}
use Rattle.loose_meaning_theory.specs.LooseKind.{behind_event, behind_execution, hand_first, hand_of, loose_kind}
use Rattle.loose_meaning_theory.proofs.LooseKindStages.{hand_stage, none_dropped, rest_of, walk_zero}

-- so many choices are enough for a packet at a place: as its hop limit says, and one more where the first link doesn't lower it
abbrev free_of : Bool → ℕ
free_of lowers = if lowers then 0 else 1

abbrev pub matter_at : Network → Place → Packet → ℕ
matter_at net place p = p.hop_limit + free_of (lowers_by (way_of net place p.destination))

abbrev arrived_in : ℕ → Family → Place
arrived_in node family = record { node = node; how = Arrived 0; family = family }

free_few : (b : Bool) → free_of b ≤ 1
free_few true = omega arith
free_few false = omega arith

arrived_matter : (net : Network) (node : ℕ) (family : Family) (p : Packet) → matter_at net (arrived_in node family) p ≡ p.hop_limit
arrived_matter net node family p =
    let none : free_of (lowers_by (way_of net (arrived_in node family) p.destination)) ≡ 0
    = ap free_of (family_lowers net node family p.destination) in
    omega (arith, none)

unbound_policy : (s : SidEntry) → binds s ≡ false → behaviour_policy s.behaviour ≡ None
unbound_policy s e = by_policy (behaviour_policy s.behaviour) refl
  where
    by_policy : (o : Option ℕ) → behaviour_policy s.behaviour ≡ o → behaviour_policy s.behaviour ≡ None
    by_policy None is = is
    by_policy (Some n) is = absurd (cc (e, is))

-- the same is handed over of what a SID that binds no policy leaves, a packet with a lower hop limit
module _ (net : Network) where
  -- the rows agree on so many choices from one on
  abbrev Agree : (ℕ → ℕ) → (ℕ → ℕ) → ℕ → ℕ → Type 0
  Agree pick other taken many = (d : ℕ) → taken ≤ d → d < taken + many → pick d ≡ other d

  abbrev Agrees : ℕ → Type 0
  Agrees fuel = (place : Place) (p : Packet) (pick other : ℕ → ℕ) (taken many : ℕ) (h : Handed) → matter_at net place p ≤ many
      → Agree pick other taken many → hand_of net (free_walk_of fuel net (Some place) (V6 p) pick taken) ≡ Some h
      → hand_of net (free_walk_of fuel net (Some place) (V6 p) other taken) ≡ Some h

  abbrev behind_again : ℕ → Place → ℕ → ℕ → How → Gave → (ℕ → ℕ) → Option Handed
  behind_again more place taken n how gave row =
      hand_of net (free_walk_of more net (next_place net place (outcomes.Again n how)) gave.after row (taken + 0))

  -- behind an execution
  again_agrees : (more : ℕ) → Agrees more → (place : Place) (p : Packet) (pick other : ℕ → ℕ) (taken many n : ℕ) (how : How) (h : Handed)
      → p.hop_limit ≤ many → Agree pick other taken many → (s : SidEntry) → slice_get net.sids n ≡ Some s
      → (gave : Gave) → (behaviour_policy s.behaviour ≡ None → IsLoweredByOne (V6 p) gave.after)
      → hand_first net gave (outcomes.Again n how)
      (hand_of net (free_walk_of more net (next_place net place (outcomes.Again n how)) gave.after pick (taken + 0))) ≡ Some h
      → hand_first net gave (outcomes.Again n how)
      (hand_of net (free_walk_of more net (next_place net place (outcomes.Again n how)) gave.after other (taken + 0))) ≡ Some h
  again_agrees more agrees place p pick other taken many n how h few same s there gave low e = by_binding (is_binding net n) refl e
    where
      by_after : (after : Content) → IsLoweredByOne (V6 p) after → (g : Handed)
          → hand_of net (free_walk_of more net (next_place net place (outcomes.Again n how)) after pick (taken + 0)) ≡ Some g
          → hand_of net (free_walk_of more net (next_place net place (outcomes.Again n how)) after other (taken + 0)) ≡ Some g
      by_after (V6 q) less g e =
          let at : Place = record { node = place.node; how = how; family = place.family } in
          let free = free_few (lowers_by (way_of net at q.destination)) in
          agrees at q pick other (taken + 0) many g (omega (arith, less.0, less.1, few, free))
          (λ d from to. same d (omega (arith, from)) (omega (arith, to))) e
      by_after (V4 q) less g e = absurd less
      by_after (Unreadable bytes reason) less g e = absurd less

      by_binding : (b : Bool) → is_binding net n ≡ b
          → (if b then None else option_map (behind_execution n) (behind_again more place taken n how gave pick)) ≡ Some h
          → (if b then None else option_map (behind_execution n) (behind_again more place taken n how gave other)) ≡ Some h
      by_binding true is e = absurd (cc)
      by_binding false is e =
          let got = map_some (behind_execution n) (behind_again more place taken n how gave pick) h e in
          let unbound : binds s ≡ false = sym (ap sid_binds there) ∙ is in
          ap (option_map (behind_execution n)) (by_after gave.after (low (unbound_policy s unbound)) got.0 got.1) ∙ ap Some got.2

  -- behind a link
  sent_agrees : (more : ℕ) → Agrees more → (place : Place) (p q : Packet) (pick other : ℕ → ℕ) (taken many link : ℕ) (h : Handed)
      → q.hop_limit + 1 ≤ many → Agree pick other taken many
      → option_map (behind_event (Crossed link))
      (hand_of net (free_walk_of more net (next_place net place (outcomes.Send link)) (V6 q) pick (taken + 1))) ≡ Some h
      → option_map (behind_event (Crossed link))
      (hand_of net (free_walk_of more net (next_place net place (outcomes.Send link)) (V6 q) other (taken + 1))) ≡ Some h
  sent_agrees more agrees place p q pick other taken many link h few same e = by_end (ends_in net link) e
    where
      by_end : (o : Option ℕ)
          → option_map (behind_event (Crossed link)) (hand_of net (free_walk_of more net (arrival o place) (V6 q) pick (taken + 1)))
          ≡ Some h
          → option_map (behind_event (Crossed link)) (hand_of net (free_walk_of more net (arrival o place) (V6 q) other (taken + 1)))
          ≡ Some h
      by_end None e =
          let none : None ≡ Some h
          = sym (ap (λ ss. option_map (behind_event (Crossed link)) (hand_of net ss)) (walk_none net more (V6 q) pick (taken + 1))) ∙ e in
          absurd (cc)
      by_end (Some node) e =
          let got =
          map_some (behind_event (Crossed link))
          (hand_of net (free_walk_of more net (Some (arrived_in node place.family)) (V6 q) pick (taken + 1))) h e in
          let enough = arrived_matter net node place.family q in
          ap (option_map (behind_event (Crossed link)))
          (agrees (arrived_in node place.family) q pick other (taken + 1) (many - 1) got.0 (omega (arith, enough, few))
          (λ d from to. same d (omega (arith, from)) (omega (arith, to, few))) got.1)
          ∙ ap Some got.2

  -- a stage that gives the same under both rows
  stage_agrees : (more : ℕ) (place : Place) (p : Packet) (pick other : ℕ → ℕ) (taken : ℕ) (h : Handed) (gave : Gave)
      → free_step_of net place (V6 p) (pick taken) ≡ gave → free_step_of net place (V6 p) (other taken) ≡ gave
      → (hand_first net gave gave.outcome (hand_of net (rest_of net more place pick taken gave)) ≡ Some h
      → hand_first net gave gave.outcome (hand_of net (rest_of net more place other taken gave)) ≡ Some h)
      → hand_of net (free_walk_of (suc more) net (Some place) (V6 p) pick taken) ≡ Some h
      → hand_of net (free_walk_of (suc more) net (Some place) (V6 p) other taken) ≡ Some h
  stage_agrees more place p pick other taken h gave one two goes_on e =
      hand_stage net more place (V6 p) other taken gave two
      ∙ goes_on (sym (hand_stage net more place (V6 p) pick taken gave one) ∙ e)

  -- by what a stage gives that sends nothing
  abbrev behind_outcome : ℕ → Place → ℕ → Gave → Outcome → (ℕ → ℕ) → Option Handed
  behind_outcome more place taken gave o row =
      hand_first net gave o (hand_of net (free_walk_of more net (next_place net place o) gave.after row (taken + decisions o)))

  quiet_agrees : (more : ℕ) → Agrees more → (place : Place) (p : Packet) (pick other : ℕ → ℕ) (taken many choice : ℕ) (h : Handed)
      → p.hop_limit ≤ many → Agree pick other taken many → (o : Outcome) → (free_step_of net place (V6 p) choice).outcome ≡ o
      → SendsNothing o
      → behind_outcome more place taken (free_step_of net place (V6 p) choice) o pick ≡ Some h
      → behind_outcome more place taken (free_step_of net place (V6 p) choice) o other ≡ Some h
  quiet_agrees more agrees place p pick other taken many choice h few same (outcomes.Send link) is quiet e = absurd quiet
  quiet_agrees more agrees place p pick other taken many choice h few same (outcomes.Hand m how family) is quiet e = e
  quiet_agrees more agrees place p pick other taken many choice h few same (outcomes.Again m how) is quiet e =
      let x = free_again net place (V6 p) choice m how is in
      again_agrees more agrees place p pick other taken many m how h few same x.sid x.is_there (free_step_of net place (V6 p) choice)
      (λ none. free_less net place (V6 p) choice m how x.sid x.is_there none is) e
  quiet_agrees more agrees place p pick other taken many choice h few same outcomes.Local is quiet e = absurd (cc)
  quiet_agrees more agrees place p pick other taken many choice h few same (outcomes.Drop reason error) is quiet e = absurd (cc)

  -- at a SID, whose stage is the same whatever is chosen
  into_agrees : (more : ℕ) → Agrees more → (place : Place) (p : Packet) (pick other : ℕ → ℕ) (taken many n : ℕ) (h : Handed)
      → way_of net place p.destination ≡ Into n → p.hop_limit ≤ many → Agree pick other taken many
      → hand_of net (free_walk_of (suc more) net (Some place) (V6 p) pick taken) ≡ Some h
      → hand_of net (free_walk_of (suc more) net (Some place) (V6 p) other taken) ≡ Some h
  into_agrees more agrees place p pick other taken many n h way few same e =
      let gave = free_step_of net place (V6 p) (pick taken) in
      let quiet : SendsNothing gave.outcome
      = subst (λ (w : Way). SendsNothing (treated net place.node w p (pick taken)).outcome) (sym way)
      (into_quiet net place.node n (slice_get net.sids n) p) in
      stage_agrees more place p pick other taken h gave refl
      (ap (λ (w : Way). treated net place.node w p (other taken)) way ∙ sym (ap (λ (w : Way). treated net place.node w p (pick taken)) way))
      (quiet_agrees more agrees place p pick other taken many (pick taken) h few same gave.outcome refl quiet) e

  -- over a set, where the member of the first choice is taken
  over_agrees : (more : ℕ) → Agrees more → (place : Place) (p q : Packet) (pick other : ℕ → ℕ) (taken many : ℕ) (set : List ℕ) (h : Handed)
      → ((c : ℕ) → free_step_of net place (V6 p) c ≡ goes (outcomes.Send (member_of set c)) (V6 q))
      → q.hop_limit + 1 ≤ many → Agree pick other taken many
      → hand_of net (free_walk_of (suc more) net (Some place) (V6 p) pick taken) ≡ Some h
      → hand_of net (free_walk_of (suc more) net (Some place) (V6 p) other taken) ≡ Some h
  over_agrees more agrees place p q pick other taken many set h gives few same e =
      let first : pick taken ≡ other taken = same taken (omega arith) (omega (arith, few)) in
      stage_agrees more place p pick other taken h (goes (outcomes.Send (member_of set (pick taken))) (V6 q)) (gives (pick taken))
      (gives (other taken) ∙ ap (λ (c : ℕ). goes (outcomes.Send (member_of set c)) (V6 q)) (sym first))
      (sent_agrees more agrees place p q pick other taken many (member_of set (pick taken)) h few same) e

  address_none : (node : ℕ) (p : Packet) (e : Endpoint) (later : Option Handed)
      → hand_first net (treated_at_address net node p e) (treated_at_address net node p e).outcome later ≡ None
  address_none node p (Onward q) later = refl
  address_none node p (Exposed family bytes) later = refl
  address_none node p (Delivered q) later = refl
  address_none node p (Refused reason at) later = refl

  way_agrees : (more : ℕ) → Agrees more → (place : Place) (p : Packet) (pick other : ℕ → ℕ) (taken many : ℕ) (h : Handed) (w : Way)
      → way_of net place p.destination ≡ w → p.hop_limit + free_of (lowers_by w) ≤ many → Agree pick other taken many
      → hand_of net (free_walk_of (suc more) net (Some place) (V6 p) pick taken) ≡ Some h
      → hand_of net (free_walk_of (suc more) net (Some place) (V6 p) other taken) ≡ Some h
  way_agrees more agrees place p pick other taken many h (NoWay reason) way few same e =
      absurd (none_dropped net place (V6 p) pick taken h (treated net place.node (NoWay reason) p (pick taken))
      (ap (λ (w : Way). treated net place.node w p (pick taken)) way) (λ later. refl) (suc more, e))
  way_agrees more agrees place p pick other taken many h Own way few same e =
      absurd (none_dropped net place (V6 p) pick taken h (treated net place.node Own p (pick taken))
      (ap (λ (w : Way). treated net place.node w p (pick taken)) way) (address_none place.node p (at_address p)) (suc more, e))
  way_agrees more agrees place p pick other taken many h (Into n) way few same e =
      into_agrees more agrees place p pick other taken many n h way (omega (arith, few)) same e
  way_agrees more agrees place p pick other taken many h (Over set false) way few same e =
      over_agrees more agrees place p p pick other taken many set h (λ c. ap (λ (w : Way). treated net place.node w p c) way)
      (omega (arith, few)) same e
  way_agrees more agrees place p pick other taken many h (Over set true) way few same e = by_limit (leb_tells p.hop_limit 1)
    where
      by_limit : ((nat_le p.hop_limit 1 ≡ true) × (p.hop_limit ≤ 1)) ⊎ ((nat_le p.hop_limit 1 ≡ false) × (1 < p.hop_limit))
          → hand_of net (free_walk_of (suc more) net (Some place) (V6 p) other taken) ≡ Some h
      by_limit (inl low) =
          absurd (none_dropped net place (V6 p) pick taken h _
          (ap (λ (w : Way). treated net place.node w p (pick taken)) way ∙ sent_low net place.node set p (pick taken) low.1)
          (λ later. refl) (suc more, e))
      by_limit (inr high) =
          over_agrees more agrees place p (lowered true p) pick other taken many set h
          (λ c. ap (λ (w : Way). treated net place.node w p c) way ∙ sent_high net place.node set p c high.1)
          (omega (arith, few, high.1)) same e

  pub hands_agree : (fuel : ℕ) → Agrees fuel
  hands_agree zero place p pick other taken many h few same e =
      let none : None ≡ Some h = sym (ap (hand_of net) (walk_zero net (Some place) (V6 p) pick taken)) ∙ e in absurd (cc)
  hands_agree (suc more) place p pick other taken many h few same e =
      way_agrees more (hands_agree more) place p pick other taken many h (way_of net place p.destination) refl few same e

-- so many choices as the hop limit says matter to a packet from the headend, and one more
pub hop_matter : (net : Network) (intent : Intent) (steps : List TraceStep) (p : Packet) (pick other : ℕ → ℕ) (h : Handed)
    → ((d : ℕ) → d < p.hop_limit + 1 → pick d ≡ other d) → HandsOver (loose_kind net intent steps) None p pick 0 h
    → HandsOver (loose_kind net intent steps) None p other 0 h
hop_matter net intent steps p pick other h same over =
    let free = free_few (lowers_by (way_of net (headend_place intent) p.destination)) in (
      over.0,
      hands_agree net over.0 (headend_place intent) p pick other 0 (p.hop_limit + 1) h (omega (arith, free))
          (λ d from to. same d (omega (arith, to))) over.1,
    )
