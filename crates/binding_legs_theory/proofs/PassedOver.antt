-- A walk that comes to the own hand_over goes along the transit to the next SID, which lets the packet through.
use Rattle.std.proofs.Common.{◌≡◌, ℕ, zero, suc, ◌+◌, ◌-◌, ◌%◌, ◌<◌, inl, Bool, true, false, ◌&&◌, nat_le, if◌then◌else◌, List, [], ◌∷◌, Some, refl, sym, ap, ◌∙◌, subst}
use Rattle.std.specs.Prelude.{is_some}
use Rattle.std.proofs.lemmas.Bool.{leb-false}
use Rattle.std.proofs.lemmas.Option.{same_Some}
use Rattle.srv6_rules.specs.Packet.{Packet, Content}
use Rattle.net_model.specs.Network.{Network}
use Rattle.net_model.specs.NetworkKeeps.{Keeps}
use Rattle.walk_rules.specs.declared.place.Place.{Place}
use Rattle.walk_rules.specs.Relation.{IsHow}
use Rattle.walk_rules.specs.Treatment.{lowered, member_of}
use Rattle.walk_rules.specs.Way.{Way, Over, way_of}
use Rattle.intent_reader.specs.IntentRules.{stand_after}
use Rattle.intent_reader.specs.declared.intent.Step.{Step}
use Rattle.leg_table.specs.Transits.{Transit, one_if, transit_of}
use Rattle.leg_table.specs.TransitsTerms.{with_hop_limit}
use Rattle.leg_table.specs.WalkTrace.{TraceEvent, Crossed}
use Rattle.leg_table.proofs.StrictHanding.{Free, free_on, same_left, same_destination}
use Rattle.leg_table.proofs.TransitFacts.{IsSent, transit_each}
use Rattle.leg_table.proofs.StrictTransits.{arrived, same_packet}
use Rattle.binding_spec.specs.Machines.{Fork}
use Rattle.tunnel_walks_theory.specs.MachinesTerms.{Got, link_of, got_after, got_by, got_of}
use Rattle.binding_spec.specs.TunnelPackets.{Loses, arrives}
use Rattle.tunnel_walks_theory.specs.TunnelPacketsTerms.{Bared, open_at, own_by}
use Rattle.tunnel_walks_theory.proofs.PublicLaws.{map_parts, arrives_parts}
use Rattle.binding_spec.specs.NetworkWorld.{leads, look_links, look_by, step_events}
use Rattle.tunnel_network_theory.proofs.Watching.{member_link, one_link}
use Rattle.binding_legs_theory.proofs.BindingMeaningMachine.{network_world, own_got}

abbrev pub OwnGot : Type 0
OwnGot = Got TraceEvent ℕ (Bared Place Content)

module _ (net : Network) (keeps : Keeps net) where
  -- at the end of the transit the walk goes on with the hop limit that is left
  pub record Passed (r : Transit) (q : Packet) (pick : ℕ → ℕ) (g : OwnGot) : Type 0 where
    pub free : Free r.lowered q.hop_limit
    pub fuel : ℕ
    pub chosen : ℕ
    pub rest : OwnGot
    pub gives : own_got net fuel (open_at r.place (with_hop_limit (q.hop_limit - r.lowered) q)) pick chosen ≡ Some rest
    pub sids : rest.sids ≡ g.sids

  here : (ts : List Step) (place : Place) (n : ℕ) (q : Packet) (fuel : ℕ) (pick : ℕ → ℕ) (taken : ℕ) (g : OwnGot)
      → own_got net fuel (open_at place q) pick taken ≡ Some g
      → Passed (record { sid = n; place = place; left = ts; lowered = 0 }) q pick g
  here ts place n q fuel pick taken g h =
      record {
        free = inl refl;
        fuel = fuel;
        chosen = taken;
        rest = g;
        gives = ap (λ (p : Packet). own_got net fuel (open_at place p) pick taken) (same_packet q) ∙ h;
        sids = refl;
      }

  -- over a set of links
  module _ (place : Place) (lower : Bool) (to : ℕ) (r : Transit) (q : Packet) (n : ℕ) (pick : ℕ → ℕ) (taken : ℕ) (g : OwnGot)
      (rest : (m : ℕ) (chosen : ℕ) (g : OwnGot) → own_got net m (open_at (arrived to place) (lowered lower q)) pick chosen ≡ Some g
      → Passed r (lowered lower q) pick g) where
    abbrev After : Type 0
    After = Passed (record { sid = r.sid; place = r.place; left = r.left; lowered = one_if lower + r.lowered }) q pick g

    over_set : (link : ℕ) (links : List ℕ) → ((choice : ℕ) → leads net place (member_of (link ∷ links) choice) ≡ Some (arrived to place))
        → (lower ≡ true → 1 < q.hop_limit)
        → got_by step_events (own_got net n) (Fork link links (arrives (leads net place) (λ at. open_at at (lowered lower q)))) pick taken
        ≡ Some g → After
    over_set link links to_all high h =
        let l = link_of link links (pick taken) in
        let a = map_parts (got_after (Crossed l ∷ []) []) _ g h in
        let b = arrives_parts (λ next. own_got net n next pick (suc taken)) (leads net place)
        (λ at. open_at at (lowered lower q)) l a.0 a.1 in
        let same : b.0 ≡ arrived to place
        = same_Some _ _ (sym b.1 ∙ ap (leads net place) (sym (member_link link links (pick taken))) ∙ to_all (pick taken)) in
        let on = rest n (suc taken) a.0
        (subst (λ (at : Place). own_got net n (open_at at (lowered lower q)) pick (suc taken) ≡ Some a.0) same b.2) in
        record {
          free = free_on lower r.lowered q high on.free;
          fuel = on.fuel;
          chosen = on.chosen;
          rest = on.rest;
          gives = ap (λ (p : Packet). own_got net on.fuel (open_at r.place p) pick on.chosen) (sym (same_left q lower r.lowered))
              ∙ on.gives;
          sids = on.sids ∙ ap (λ (g : OwnGot). g.sids) a.2;
        }

    over_links : (set : List ℕ) → ((choice : ℕ) → leads net place (member_of set choice) ≡ Some (arrived to place))
        → (lower ≡ true → 1 < q.hop_limit)
        → got_by step_events (own_got net n) (own_by (network_world net) (look_links net place set (lowered lower q))) pick taken ≡ Some g
        → After
    over_links [] to_all high h =
        over_set 0 [] (λ choice. ap (leads net place) (member_link 0 [] choice ∙ one_link 0 (choice % 1)) ∙ to_all choice) high h
    over_links (link ∷ links) to_all high h = over_set link links to_all high h

    high_by : (b : Bool) → (b && nat_le q.hop_limit 1) ≡ false → b ≡ true → 1 < q.hop_limit
    high_by true off is = leb-false q.hop_limit 1 off
    high_by false off is = cc

    over_way : (set : List ℕ) → ((choice : ℕ) → leads net place (member_of set choice) ≡ Some (arrived to place))
        → got_by step_events (own_got net n) (own_by (network_world net) (look_by net place (Over set lower) q)) pick taken ≡ Some g
        → After
    over_way set to_all h = by_low (lower && nat_le q.hop_limit 1) refl h
      where
        by_low : (c : Bool) → (lower && nat_le q.hop_limit 1) ≡ c
            → got_by step_events (own_got net n)
            (own_by (network_world net) (if c then Loses else look_links net place set (lowered lower q))) pick taken ≡ Some g
            → After
        by_low true e h = cc
        by_low false e h = over_links set to_all (high_by lower e) h

  abbrev Through : ℕ → List Step → Place → Transit → Type 0
  Through destination ts place r =
      (q : Packet) → q.destination ≡ destination → (n : ℕ) (pick : ℕ → ℕ) (taken : ℕ) (g : OwnGot)
      → own_got net n (open_at place q) pick taken ≡ Some g → Passed r q pick g

  later : (destination : ℕ) (step : List ℕ) (ts : List Step) (place : Place) (set : List ℕ) (lower : Bool) (to : ℕ) (r : Transit)
      → IsSent net destination step place set lower to → Through destination ts (arrived to place) r
      → (q : Packet) → q.destination ≡ destination → (n : ℕ) (pick : ℕ → ℕ) (taken : ℕ) (g : OwnGot)
      → own_got net n (open_at place q) pick taken ≡ Some g
      → Passed (record { sid = r.sid; place = r.place; left = r.left; lowered = one_if lower + r.lowered }) q pick g
  unfolding got_of
  later destination step ts place set lower to r sent on q is zero pick taken g h = cc
  later destination step ts place set lower to r sent on q is (suc n) pick taken g h =
      over_way place lower to r q n pick taken g
      (λ m chosen g e. on (lowered lower q) (same_destination net keeps q lower ∙ is) m pick chosen g e) set sent.leads
      (subst (λ (way : Way). got_by step_events (own_got net n) (own_by (network_world net) (look_by net place way q)) pick taken ≡ Some g)
      (ap (way_of net place) is ∙ sent.way) h)

  pub passed : (ts : List Step) (place : Place) (p : Packet) (r : Transit) → IsHow net place.node place.how
      → is_some (stand_after net place.node ts) ≡ true → transit_of net p.destination ts place ≡ Some r
      → (n : ℕ) (pick : ℕ → ℕ) (taken : ℕ) (g : OwnGot) → own_got net n (open_at place p) pick taken ≡ Some g → Passed r p pick g
  passed ts place p r how stands transit n pick taken g h =
      transit_each net keeps p.destination (Through p.destination)
      (λ ts place n into q is fuel pick taken g h. here ts place n q fuel pick taken g h)
      (λ step ts place set lower to r sent on q is n pick taken g h.
      later p.destination step ts place set lower to r sent on q is n pick taken g h)
      ts place r how stands transit p refl n pick taken g h
