-- Packets that transit to a SID in the machine: the one walk to the execution there, and the walk under each row of choices.
use Rattle.std.proofs.Common.{◌≡◌, ℕ, zero, suc, ◌+◌, ◌-◌, ◌<◌, ◌≤◌, List, [], ◌∷◌, drop, length, Option, Some, None, slice_get, nat_lt, if◌then◌else◌, refl, sym, ap, ◌∙◌, arith}
use Rattle.std.specs.List.{AllByRecursion}
use Rattle.std.specs.Option.{option_and_then}
use Rattle.std.proofs.lemmas.Bool.{lt-ltb, ltb-true}
use Rattle.srv6_rules.specs.Packet.{Packet, Content}
use Rattle.net_model.specs.Network.{Network}
use Rattle.net_model.specs.NetworkKeeps.{Keeps}
use Rattle.walk_rules.specs.declared.place.Place.{Place}
use Rattle.walk_rules.specs.Relation.{IsHow}
use Rattle.intent_reader.specs.IntentRulesTerms.{IsIntent}
use Rattle.intent_reader.specs.declared.intent.Step.{Step}
use Rattle.intent_reader.specs.declared.intent.Intent.{Intent}
use Rattle.leg_table.proofs.LegsUp.{rest_is}
use Rattle.leg_table.proofs.TransitFacts.{intent_stands}
use Rattle.leg_table.specs.Transits.{Transit}
use Rattle.leg_table.specs.Transits as transits
use Rattle.leg_table.specs.WalkTrace.{TraceEvent, executed}
use Rattle.binding_spec.specs.OwnHands.{most_stages}
use Rattle.binding_spec.specs.Machines.{Done, End, left_by, end_with, end_of}
use Rattle.tunnel_walks_theory.specs.TunnelChoices.{EndsWith}
use Rattle.binding_spec.specs.TunnelPackets.{Look}
use Rattle.tunnel_walks_theory.specs.TunnelPacketsTerms.{Tunnelled, Met, open_at, met_by, met_move, AreJoined, IsJoined}
use Rattle.tunnel_walks_theory.specs.TunnelLegs.{transit_of}
use Rattle.tunnel_walks_theory.specs.WalkRests.{rest_of}
use Rattle.tunnel_walks_theory.proofs.PublicLaws.{then_parts, map_from, if_parts, met_joined, one_each, goes_on_law, transit_enough}
use Rattle.binding_spec.specs.NetworkWorld.{look_in, step_events}
use Rattle.tunnel_network_theory.specs.NetworkTransits.{ended_at, met_there}
use Rattle.tunnel_network_theory.proofs.PublicLaws.{machine_transits, steps_joined}
use Rattle.binding_spec.specs.declared.origin.Origin.{Origin}
use Rattle.binding_legs_theory.proofs.BindingMeaningMachine.{network_world, own_got}
use Rattle.binding_legs_theory.proofs.BindingMeaningBeginnings.{Begins}
use Rattle.binding_legs_theory.proofs.BindingMeaningExecuted.{LeftBy}
use Rattle.binding_legs_theory.proofs.BindingMeaningWays.{there}

-- what holds of all steps holds of the last ones
pub all_drop : {X : Type 0} (P : X → Type 0) (n : ℕ) (xs : List X) → AllByRecursion P xs → AllByRecursion P (drop n xs)
all_drop P n [] all = by_drop n
  where
    by_drop : (n : ℕ) → AllByRecursion P (drop n [])
    by_drop zero = tt
    by_drop (suc n) = tt
all_drop P zero (x ∷ xs) all = all
all_drop P (suc n) (x ∷ xs) all = all_drop P n xs all.1

module _ (net : Network) (keeps : Keeps net) (intent : Intent) (is_intent : IsIntent net intent) where
  pub joined_at : (position : ℕ) → AreJoined (network_world net) (drop position intent.steps)
  joined_at position =
      all_drop (IsJoined (network_world net)) position intent.steps
      (steps_joined net most_stages intent.headend intent.steps (intent_stands net intent is_intent).0)

  -- the steps behind an execution at the end of a transit are the last ones of the intent
  pub behind_is : (st : Origin) (ts us : List Step) (n count left : ℕ) → ts ≡ drop count (drop st.done intent.steps) → LeftBy net n ts us
      → length us ≡ left → count ≤ length (drop st.done intent.steps) → st.done ≤ length intent.steps
      → us ≡ drop (length intent.steps - left) intent.steps
  behind_is st ts us n count left from behind long few within =
      rest_is intent.steps ts us st.done count left from behind.rest long few within behind.few

  -- under a row of choices the packet comes to the execution, along the steps up to there
  pub record Led (position : ℕ) (d : Tunnelled Place Packet) (n : ℕ) (us : List Step) (m : Met Place Packet Content) (pick : ℕ → ℕ) (taken : ℕ)
      : Type 0 where
    pub trace : List TraceEvent
    pub along : left_by step_events (drop position intent.steps) trace ≡ Some us
    pub count : ℕ
    pub chosen : ℕ
    pub passes : (more : ℕ) → own_got net (count + more) d pick taken ≡ rest_of (network_world net) more pick chosen trace (n ∷ []) m

  -- the transit of the packet in the machine ends with the execution
  pub transit_ends : (st : Origin) (p : Packet) (n : ℕ) (r : Transit) → IsHow net st.place.node st.place.how
      → transits.transit_of net p.destination (drop st.done intent.steps) st.place ≡ Some r → r.sid ≡ n
      → r.lowered < p.hop_limit → (look : Look ℕ ℕ Place Packet Content) (m : Met Place Packet Content)
      → look_in net r.place n (slice_get net.sids n) (there p r) ≡ look
      → met_by (network_world net) look ≡ Done (executed net n) (n ∷ []) m → (us : List Step)
      → left_by step_events r.left (executed net n) ≡ Some us
      → transit_of (network_world net) (drop st.done intent.steps) st.place p ≡ Some (end_with (n ∷ []) m us)
  transit_ends st p n r how transit is_sid low look m is looks us left =
      machine_transits net most_stages (drop st.done intent.steps) st.place p keeps how (omega (arith, low))
      ∙ ap (option_and_then (met_there net most_stages p)) transit
      ∙ ap (λ b. if b then ended_at r.left (met_by (network_world net)
      (look_in net r.place r.sid (slice_get net.sids r.sid) (there p r))) else None)
      (lt-ltb r.lowered p.hop_limit low)
      ∙ ap (λ (i : ℕ). ended_at r.left (met_by (network_world net)
      (look_in net r.place i (slice_get net.sids i) (there p r)))) is_sid
      ∙ ap (λ l. ended_at r.left (met_by (network_world net) l)) is
      ∙ ap (ended_at r.left) looks
      ∙ map_from (end_with (n ∷ []) m) left refl

  pub ends_with : (ts : List Step) (place : Place) (p : Packet) (e : End Step ℕ (Met Place Packet Content))
      → transit_of (network_world net) ts place p ≡ Some e → EndsWith step_events (met_move (network_world net)) ts (open_at place p) e
  unfolding transit_of
  ends_with ts place p e h = (suc (length ts), h)

  pub led : (position : ℕ) (via : Option ℕ) (p : Packet) (st : Origin) (b : Begins net keeps intent is_intent position via p st)
      → (n : ℕ) (r : Transit) → transits.transit_of net p.destination (drop st.done intent.steps) st.place ≡ Some r → r.sid ≡ n
      → r.lowered < p.hop_limit → (look : Look ℕ ℕ Place Packet Content) (m : Met Place Packet Content)
      → look_in net r.place n (slice_get net.sids n) (there p r) ≡ look
      → met_by (network_world net) look ≡ Done (executed net n) (n ∷ []) m → (us : List Step)
      → left_by step_events r.left (executed net n) ≡ Some us → (pick : ℕ → ℕ) (taken : ℕ) → Led position b.deep n us m pick taken
  led position via p st b n r is_transit is_sid low look m is looks us left pick taken =
      let transit = transit_ends st p n r b.facts.how is_transit is_sid low look m is looks us left in
      let e : End Step ℕ (Met Place Packet Content) = end_with (n ∷ []) m us in
      let ends = b.met e (ends_with (drop st.done intent.steps) st.place p e transit) in
      let one = one_each step_events (met_move (network_world net)) ends.0 (drop position intent.steps) b.deep pick taken e
      (met_joined (network_world net) (drop position intent.steps) (joined_at position)) ends.1 in
      let on = goes_on_law (network_world net) ends.0 b.deep pick taken one.got one.gives in
      record {
        trace = one.got.trace;
        along = one.along;
        count = on.count;
        chosen = on.chosen;
        passes = λ more.
            on.passes more
            ∙ ap (λ sids. rest_of (network_world net) more pick on.chosen one.got.trace sids one.got.result) one.sids
            ∙ ap (rest_of (network_world net) more pick on.chosen one.got.trace (n ∷ [])) one.result;
      }

  -- ---- the other way round

  -- a transit by look-ups, whose lowerings are below the hop limit, and what the SID at its end does
  pub record FirstTransit (st : Origin) (p : Packet) (first : End Step ℕ (Met Place Packet Content)) : Type 0 where
    pub transit : Transit
    pub is_transit : transits.transit_of net p.destination (drop st.done intent.steps) st.place ≡ Some transit
    pub low : transit.lowered < p.hop_limit
    pub ended : ended_at transit.left (met_by (network_world net) (look_in net transit.place transit.sid (slice_get net.sids transit.sid)
        (there p transit)))
        ≡ Some first

  transit_of_law : (n : ℕ) (ts : List Step) (place : Place) (p : Packet) (first : End Step ℕ (Met Place Packet Content))
      → end_of step_events (met_move (network_world net)) n ts (open_at place p) ≡ Some first
      → transit_of (network_world net) ts place p ≡ Some first
  unfolding transit_of
  transit_of_law n ts place p first h = transit_enough (network_world net) n ts place p first h

  -- a walk to a first execution from where the packet is on top is such a transit
  pub first_transit : (st : Origin) (p : Packet) (first : End Step ℕ (Met Place Packet Content)) → IsHow net st.place.node st.place.how
      → 0 < p.hop_limit → EndsWith step_events (met_move (network_world net)) (drop st.done intent.steps) (open_at st.place p) first
      → FirstTransit st p first
  first_transit st p first how positive ends =
      let ts = drop st.done intent.steps in
      let a = then_parts (met_there net most_stages p) (transits.transit_of net p.destination ts st.place) first
      (sym (machine_transits net most_stages ts st.place p keeps how positive) ∙ transit_of_law ends.0 ts st.place p first ends.1) in
      let c = if_parts (nat_lt a.0.lowered p.hop_limit) _ first a.2 in
      record { transit = a.0; is_transit = a.1; low = ltb-true a.0.lowered p.hop_limit c.0; ended = c.1 }
