-- The machine's transits are those by look-ups alone.
use Rattle.std.proofs.Common.{◌≡◌, ℕ, suc, ◌+◌, ◌-◌, ◌<◌, ◌≤◌, Bool, true, false, ◌&&◌, nat_le, nat_lt, if◌then◌else◌, List, [], ◌∷◌, length, slice_get, Option, Some, None, refl, sym, ap, ◌∙◌, arith}
use Rattle.std.specs.Option.{option_map, option_and_then}
use Rattle.std.proofs.lemmas.Bool.{and_parts, lt-ltb, le-ltb, ltb-true, ltb-false, leb-true, leb-false}
use Rattle.srv6_rules.specs.declared.sid.Behaviour.{Behaviour}
use Rattle.srv6_rules.specs.declared.sid.SidEntry.{SidEntry}
use Rattle.srv6_rules.specs.Behaviours.{behaviour_policy}
use Rattle.srv6_rules.specs.Packet.{Packet, Content}
use Rattle.srv6_rules.specs.Endpoint.{Endpoint, Onward, Exposed, Delivered, Refused, at_sid}
use Rattle.net_model.specs.declared.parts.NamedPolicy.{NamedPolicy}
use Rattle.net_model.specs.Network.{Network}
use Rattle.net_model.specs.NetworkKeeps.{Keeps}
use Rattle.walk_rules.specs.declared.place.Place.{Place}
use Rattle.walk_rules.specs.Way.{Way, NoWay, Over, Own, Into, way_of}
use Rattle.walk_rules.specs.WayTerms.{IsWayFrom}
use Rattle.walk_rules.specs.Relation.{IsHow}
use Rattle.walk_rules.specs.Treatment.{allow_of, lowered}
use Rattle.walk_rules.specs.Walk.{arrival}
use Rattle.walk_rules.proofs.PublicLaws.{way_from}
use Rattle.intent_reader.specs.IntentRules.{first_end, end_of_link}
use Rattle.intent_reader.specs.declared.intent.Step.{Step}
use Rattle.intent_reader.specs.declared.intent.Step.TheVariants.{Links, Function, Reach}
use Rattle.leg_table.specs.Transits.{Transit, one_if, more_lowered, all_in_step, transit_on, transit_over, transit_by, transit_end}
use Rattle.leg_table.specs.TransitsTerms.{with_hop_limit}
use Rattle.leg_table.specs.Transits as transits
use Rattle.leg_table.proofs.StrictLinks.{far_end_is}
use Rattle.leg_table.proofs.StrictTransits.{arrived, same_packet}
use Rattle.binding_spec.specs.Machines.{End, all_in, end_by, end_of}
use Rattle.binding_spec.specs.TunnelPackets.{Loses}
use Rattle.tunnel_walks_theory.specs.TunnelPacketsTerms.{Tunnelled, Met, open_at, met_by, met_move}
use Rattle.tunnel_walks_theory.specs.TunnelLegs.{transit_of}
use Rattle.binding_spec.specs.NetworkWorld.{look_links, look_bound, look_onward, look_at_sid, look_in, look_by, step_events, world}
use Rattle.tunnel_network_theory.specs.NetworkTransits.{ended_at, met_there}

lt_shift : (r h k : ℕ) → k < h → nat_lt r (h - k) ≡ nat_lt (k + r) h
lt_shift r h k less = by_test (nat_lt r (h - k)) refl
  where
    by_test : (b : Bool) → nat_lt r (h - k) ≡ b → nat_lt r (h - k) ≡ nat_lt (k + r) h
    by_test true e = let x : r < h - k = ltb-true _ _ e in e ∙ sym (lt-ltb (k + r) h (omega (arith, x)))
    by_test false e = let x : h - k ≤ r = ltb-false _ _ e in e ∙ sym (le-ltb (k + r) h (omega (arith, x, less)))

lowered_is : (lower : Bool) (p : Packet) → lowered lower p ≡ with_hop_limit (p.hop_limit - one_if lower) p
lowered_is true p = refl
lowered_is false p = sym (same_packet p)

-- a step has all links by either definition
pub all_same : (t : Step) (first : ℕ) (rest : List ℕ) → all_in step_events t (first ∷ rest) ≡ all_in_step t (first ∷ rest)
all_same (Links set) first rest = refl
all_same (Function sid) first rest = refl
all_same (Reach node) first rest = refl

module _ (net : Network) (limit : ℕ) where
  abbrev End1 : Type 0
  End1 = End Step ℕ (Met Place Packet Content)

  abbrev met_end : ℕ → List Step → Tunnelled Place Packet → Option End1
  met_end = end_of step_events (met_move (world net limit))

  -- ---- at a SID the walk is done, whatever would follow

  module _ (go : List Step → Tunnelled Place Packet → Option End1) (ts : List Step) where
    bound_any : (place : Place) (n : ℕ) (b : Behaviour) (q : Packet) (o : Option NamedPolicy)
        → ended_at ts (met_by (world net limit) (look_bound net place n b q o))
        ≡ end_by step_events go (met_by (world net limit) (look_bound net place n b q o)) ts
    bound_any place n b q None = refl
    bound_any place n b q (Some named) = refl

    onward_any : (place : Place) (n : ℕ) (b : Behaviour) (q : Packet) (o : Option ℕ)
        → ended_at ts (met_by (world net limit) (look_onward net place n b q o))
        ≡ end_by step_events go (met_by (world net limit) (look_onward net place n b q o)) ts
    onward_any place n b q None = refl
    onward_any place n b q (Some number) = bound_any place n b q (slice_get net.policies number)

    sid_any : (place : Place) (n : ℕ) (b : Behaviour) (e : Endpoint)
        → ended_at ts (met_by (world net limit) (look_at_sid net place n b e))
        ≡ end_by step_events go (met_by (world net limit) (look_at_sid net place n b e)) ts
    sid_any place n b (Onward q) = onward_any place n b q (behaviour_policy b)
    sid_any place n b (Exposed family bytes) = refl
    sid_any place n b (Delivered q) = refl
    sid_any place n b (Refused reason at) = refl

    in_any : (place : Place) (n : ℕ) (p : Packet) (o : Option SidEntry)
        → ended_at ts (met_by (world net limit) (look_in net place n o p))
        ≡ end_by step_events go (met_by (world net limit) (look_in net place n o p)) ts
    in_any place n p None = refl
    in_any place n p (Some s) = sid_any place n s.behaviour (at_sid s (allow_of (slice_get net.nodes place.node)) p)

    into_same : (place : Place) (n : ℕ) (p : Packet) → 0 < p.hop_limit
        → end_by step_events go (met_by (world net limit) (look_in net place n (slice_get net.sids n) p)) ts
        ≡ met_there net limit p (record { sid = n; place = place; left = ts; lowered = 0 })
    into_same place n p some =
        let there : Packet → Option End1 = λ q. ended_at ts (met_by (world net limit) (look_in net place n (slice_get net.sids n) q)) in
        sym (in_any place n p (slice_get net.sids n)) ∙ sym (ap there (same_packet p))
        ∙ sym (ap (λ b. if b then there (with_hop_limit (p.hop_limit - 0) p) else None) (lt-ltb 0 p.hop_limit some))

  -- ---- over links

  abbrev by_transit : Packet → Option Transit → Option End1
  by_transit p o = option_and_then (met_there net limit p) o

  shifted_transit : (p : Packet) (k : ℕ) → k < p.hop_limit → (o : Option Transit)
      → by_transit (with_hop_limit (p.hop_limit - k) p) o
      ≡ by_transit p (option_map (λ r. record { sid = r.sid; place = r.place; left = r.left; lowered = k + r.lowered }) o)
  shifted_transit p k less None = refl
  shifted_transit p k less (Some r) =
      let there : ℕ → Option End1 = λ h.
      ended_at r.left (met_by (world net limit) (look_in net r.place r.sid (slice_get net.sids r.sid) (with_hop_limit h p))) in
      let hops : p.hop_limit - k - r.lowered ≡ p.hop_limit - (k + r.lowered) = omega arith in
      ap (λ b. if b then there (p.hop_limit - k - r.lowered) else None) (lt_shift r.lowered p.hop_limit k less)
      ∙ ap (λ h. if nat_lt (k + r.lowered) p.hop_limit then there h else None) hops

  lost_transit : (p : Packet) → p.hop_limit ≤ 1 → (o : Option Transit) → by_transit p (option_map (more_lowered true) o) ≡ None
  lost_transit p low None = refl
  lost_transit p low (Some r) =
      ap (λ b. if b then ended_at r.left (met_by (world net limit) (look_in net r.place r.sid (slice_get net.sids r.sid)
      (with_hop_limit (p.hop_limit - (1 + r.lowered)) p))) else None) (le-ltb (1 + r.lowered) p.hop_limit (omega (arith, low)))

  abbrev Same : List Step → Type 0
  Same ts =
      (place : Place) (p : Packet) → IsHow net place.node place.how → 0 < p.hop_limit
      → met_end (suc (length ts)) ts (open_at place p) ≡ by_transit p (transits.transit_of net p.destination ts place)

  sent_same : (ts : List Step) → Same ts → (place : Place) (p : Packet) (lower : Bool) → one_if lower < p.hop_limit → (o : Option ℕ)
      → option_and_then (met_end (suc (length ts)) ts) (option_map (λ next. open_at next (lowered lower p)) (arrival o place))
      ≡ by_transit p (option_map (more_lowered lower) (transit_on (arrival o place) (transits.transit_of net p.destination ts)))
  sent_same ts ih place p lower less None = refl
  sent_same ts ih place p lower less (Some to) =
      let next : Place = arrived to place in
      ap (λ q. met_end (suc (length ts)) ts (open_at next q)) (lowered_is lower p)
      ∙ ih next (with_hop_limit (p.hop_limit - one_if lower) p) tt (omega (arith, less))
      ∙ shifted_transit p (one_if lower) less (transits.transit_of net p.destination ts next)

  over_same : (t : Step) (ts : List Step) → Same ts → (place : Place) (p : Packet) (lower : Bool) (first : ℕ) (rest : List ℕ)
      → 0 < p.hop_limit
      → end_by step_events (met_end (suc (length ts))) (met_by (world net limit) (look_by net place (Over (first ∷ rest) lower) p)) (t ∷ ts)
      ≡ by_transit p (transit_over net place t (first ∷ rest) lower (transits.transit_of net p.destination ts))
  over_same t ts ih place p lower first rest some = by_low (lower && nat_le p.hop_limit 1) refl
    where
      lost : (b c : Bool) → b ≡ true → (b && nat_le p.hop_limit 1) ≡ true
          → (o : Option Transit) → by_transit p (if c then option_map (more_lowered b) o else None) ≡ None
      lost true true e low o = lost_transit p (leb-true _ _ low) o
      lost true false e low o = refl
      lost false c e low o = absurd (cc)

      less : (b : Bool) → (b && nat_le p.hop_limit 1) ≡ false → one_if b < p.hop_limit
      less true high = let x : 1 < p.hop_limit = leb-false _ _ high in omega (arith, x)
      less false high = some

      by_low : (c : Bool) → (lower && nat_le p.hop_limit 1) ≡ c
          → end_by step_events (met_end (suc (length ts)))
          (met_by (world net limit) (if c then Loses else look_links net place (first ∷ rest) (lowered lower p))) (t ∷ ts)
          ≡ by_transit p (transit_over net place t (first ∷ rest) lower (transits.transit_of net p.destination ts))
      by_low true e =
          sym (lost lower (all_in_step t (first ∷ rest)) (and_parts lower (nat_le p.hop_limit 1) e).0 e
          (transit_on (arrival (first_end net (first ∷ rest)) place) (transits.transit_of net p.destination ts)))
      by_low false e =
          on _ _
          (ap (λ o. option_and_then (met_end (suc (length ts)) ts) (option_map (λ next. open_at next (lowered lower p)) (arrival o place)))
          (far_end_is (slice_get net.links first))
          ∙ sent_same ts ih place p lower (less lower e) (end_of_link (slice_get net.links first)))
        where
          on : (near : Option End1) (far : Option Transit) → near ≡ by_transit p far
              → (if all_in step_events t (first ∷ rest) then near else None) ≡ by_transit p
              (if all_in_step t (first ∷ rest) then far else None)
          on near far same = ap (λ d. if d then near else None) (all_same t first rest) ∙ on_test (all_in_step t (first ∷ rest))
            where
              on_test : (c : Bool) → (if c then near else None) ≡ by_transit p (if c then far else None)
              on_test true = same
              on_test false = refl

  ways_same : (t : Step) (ts : List Step) → Same ts → (place : Place) (p : Packet) (way : Way) → IsWayFrom net place.node way
      → 0 < p.hop_limit
      → end_by step_events (met_end (suc (length ts))) (met_by (world net limit) (look_by net place way p)) (t ∷ ts)
      ≡ by_transit p (transit_by net place (t ∷ ts) t (transits.transit_of net p.destination ts) way)
  ways_same t ts ih place p (NoWay reason) from some = refl
  ways_same t ts ih place p Own from some = refl
  ways_same t ts ih place p (Over [] lower) from some = absurd (none from.some)
    where
      none : 0 < 0 → ⊥
      none h = omega arith
  ways_same t ts ih place p (Over (first ∷ rest) lower) from some = over_same t ts ih place p lower first rest some
  ways_same t ts ih place p (Into n) from some = into_same (met_end (suc (length ts))) (t ∷ ts) place n p some

  end_way : (place : Place) (p : Packet) (way : Way) → 0 < p.hop_limit
      → end_by step_events (met_end 0) (met_by (world net limit) (look_by net place way p)) [] ≡ by_transit p (transit_end place way)
  end_way place p (NoWay reason) some = refl
  end_way place p Own some = refl
  end_way place p (Over set lower) some = by_low (lower && nat_le p.hop_limit 1) set
    where
      by_low : (c : Bool) (set : List ℕ)
          → end_by step_events (met_end 0) (met_by (world net limit) (if c then Loses else look_links net place set (lowered lower p)))
          [] ≡ None
      by_low true set = refl
      by_low false [] = refl
      by_low false (link ∷ links) = refl
  end_way place p (Into n) some = into_same (met_end 0) [] place n p some

  transits_same : Keeps net → (ts : List Step) → Same ts
  unfolding end_of
  transits_same keeps [] place p how some = end_way place p (way_of net place p.destination) some
  transits_same keeps (t ∷ ts) place p how some =
      ways_same t ts (transits_same keeps ts) place p (way_of net place p.destination) (way_from net place p.destination keeps how) some

  pub machine_transits : (ts : List Step) (place : Place) (p : Packet) → Keeps net → IsHow net place.node place.how → 0 < p.hop_limit
      → transit_of (world net limit) ts place p ≡ option_and_then (met_there net limit p) (transits.transit_of net p.destination ts place)
  unfolding transit_of
  machine_transits ts place p keeps how some = transits_same keeps ts place p how some
