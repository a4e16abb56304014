-- Where a packet that is handed over for all choices comes to from its place in a list.
use Rattle.std.proofs.Common.{◌≡◌, ℕ, ◌-◌, ◌<◌, inr, true, drop, Option, Some, None, slice_get, refl, sym, ◌∙◌, ap, subst, arith}
use Rattle.v6_addr.specs.Address.{PrefixValue}
use Rattle.srv6_rules.specs.declared.family.Family.TheVariants as families
use Rattle.srv6_rules.specs.declared.sid.SidEntry.{SidEntry}
use Rattle.srv6_rules.specs.Packet.{Packet, V6}
use Rattle.net_model.specs.Network.{Network}
use Rattle.net_model.specs.NetworkRulesTerms.{IsNetwork}
use Rattle.net_flatness.specs.Flat.{IsFlat}
use Rattle.net_model.specs.NetworkKeeps.{Keeps}
use Rattle.net_model.proofs.PublicLaws.{keeps_from_network}
use Rattle.walk_rules.specs.declared.place.Place.{Place}
use Rattle.walk_rules.specs.Way.{Into, way_of}
use Rattle.intent_reader.specs.IntentRulesTerms.{IsIntent}
use Rattle.intent_reader.specs.declared.intent.Intent.{Intent}
use Rattle.sid_list_theory.specs.ListPlaces as lists
use Rattle.sid_list_theory.specs.ListPlaces.{Tunnel, active, StandsOn, Along}
use Rattle.sid_list_theory.proofs.PublicLaws.{along_hop, along_sent}
use Rattle.list_pack.specs.SidLists.{list_sid, IsSidPrefix}
use Rattle.leg_table.proofs.FlatNets.{FlatFacts}
use Rattle.leg_table.specs.NestLegsTerms.{PlaceKeeps}
use Rattle.leg_table.specs.Transits.{Transit, transit_of}
use Rattle.leg_table.specs.TransitsTerms.{with_hop_limit, TransitEnds}
use Rattle.leg_table.specs.PositionSids.{prefix_by, prefix_at, sid_address}
use Rattle.leg_table.specs.StrictLegs.{place_from}
use Rattle.leg_table.specs.StrictLegsTerms.{is_origin}
use Rattle.leg_table.proofs.StrictAlike.{address_alike}
use Rattle.leg_table.proofs.AllWays.{yes, hands_every}
use Rattle.leg_table.proofs.StrictTransits.{every_transit}
use Rattle.leg_table.proofs.TransitFacts.{transit_facts_law, OriginFacts, start_facts}
use Rattle.leg_table.proofs.ListPlaces.{own_here_law, address_at}
use Rattle.leg_table.proofs.StrictArrivals.{into_stands}
use Rattle.leg_table.proofs.StrictHanding.{TransitWalk, transit_walk}
use Rattle.leg_table.proofs.Segments.{into_prefix}
use Rattle.leg_table.proofs.AllHands.{Hands, hands_ways, hands_along}

module _ (net : Network) (network : IsNetwork net) (flat : IsFlat net) (facts : FlatFacts net) (intent : Intent)
    (is_intent : IsIntent net intent) (tunnel : Tunnel) (family : tunnel.inner ≡ intent.inner) where
  keeps : Keeps net
  keeps = keeps_from_network net network

  -- where a packet that is handed over comes to: the transit to the next SID, and what stands there
  pub record Comes (position : ℕ) (via : Option ℕ) (x : lists.ListPlace) (q : PrefixValue) (hop : ℕ) (p : Packet) (place : Place)
      : Type 0 where
    pub transit : Transit
    pub sid : SidEntry
    pub there : slice_get net.sids transit.sid ≡ Some sid
    pub stands : sid.node ≡ transit.place.node
    pub prefix : prefix_at net transit.sid ≡ q
    pub on : StandsOn sid (active x)
    pub into : way_of net transit.place p.destination ≡ Into transit.sid
    pub is_transit : transit_of net (sid_address net transit.sid) (drop position intent.steps) place ≡ Some transit
    pub low : transit.lowered < hop
    pub is_v6 : transit.place.family ≡ families.V6
    pub walked : TransitWalk net (drop position intent.steps) place p transit
    pub along : Along tunnel x (hop - transit.lowered) (with_hop_limit (p.hop_limit - transit.lowered) p)
    pub hands : Hands net transit.place (V6 (with_hop_limit (p.hop_limit - transit.lowered) p)) transit.left

  comes_by : (position : ℕ) (via : Option ℕ) (x : lists.ListPlace) (q : PrefixValue) (hop : ℕ) (p : Packet) (place : Place)
      → OriginFacts net intent position place → Along tunnel x hop p → PlaceKeeps net x → active x ≡ list_sid net q → IsSidPrefix net q
      → Hands net place (V6 p) (drop position intent.steps) → (o : Option Transit)
      → transit_of net p.destination (drop position intent.steps) place ≡ o → TransitEnds net yes p o → Comes position via x q hop p place
  comes_by position via x q hop p place s along nests is named hands None f ends = absurd ends
  comes_by position via x q hop p place s along nests is named hands (Some r) f ends =
      let ts = drop position intent.steps in
      let f' = transit_facts_law net keeps p.destination ts place r s.how s.rest f in
      let stands = into_stands net keeps intent is_intent r.place p.destination r.sid f'.into in
      let own = own_here_law net keeps facts tunnel x hop p named.0 named.1 along nests named.2 (is ∙ ap (list_sid net) (sym named.3)) in
      let prefix : stands.0.prefix ≡ q
      = sym (into_prefix net network flat r.place named.0 r.sid p.destination named.1 stands.0 named.2 stands.1 own f'.into) ∙ named.3 in
      let same : active x ≡ list_sid net stands.0.prefix = is ∙ ap (list_sid net) (sym prefix) in
      let to = address_at net keeps facts tunnel x hop p r.sid stands.0 along nests stands.1 same in
      let limit = along_hop tunnel x hop p along in
      let w = transit_walk net keeps ts place p r s.how s.rest f (inr ends.0) in
      record {
        transit = r;
        sid = stands.0;
        there = stands.1;
        stands = stands.2;
        prefix = ap prefix_by stands.1 ∙ prefix;
        on = subst (StandsOn stands.0) (sym same) (facts.suits.stands r.sid stands.0 stands.1);
        into = f'.into;
        is_transit = sym (address_alike net facts r.sid stands.0 stands.1 p.destination to ts place s.family) ∙ f;
        low = subst (λ (h : ℕ). r.lowered < h) limit ends.0;
        is_v6 = f'.family ∙ s.family;
        walked = w;
        along =
            subst (λ (h : ℕ). Along tunnel x h (with_hop_limit (p.hop_limit - r.lowered) p)) (ap (λ (h : ℕ). h - r.lowered) limit)
            (along_sent tunnel x hop (p.hop_limit - r.lowered) p along);
        hands = hands_along net ts place p r w hands;
      }

  pub comes : (position : ℕ) (via : Option ℕ) (x : lists.ListPlace) (q : PrefixValue) (hop : ℕ) (p : Packet) (place : Place)
      → is_origin net intent position via ≡ true → place_from net intent via ≡ Some place
      → Along tunnel x hop p → PlaceKeeps net x → active x ≡ list_sid net q → IsSidPrefix net q
      → 0 < hop → Hands net place (V6 p) (drop position intent.steps) → Comes position via x q hop p place
  comes position via x q hop p place start from along nests is named positive hands =
      let ts = drop position intent.steps in
      let s = start_facts net keeps intent is_intent position via place start from in
      let above : 0 < p.hop_limit = let e = along_hop tunnel x hop p along in omega arith in
      let ends = (every_transit net yes keeps ts place p s.how s.rest above).0
      (hands_every net ts place (V6 p) (hands_ways net ts place (V6 p) hands)) in
      comes_by position via x q hop p place s along nests is named hands (transit_of net p.destination ts place) refl ends
