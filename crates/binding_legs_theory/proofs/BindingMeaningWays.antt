-- Where a packet at a place of a list comes to by a transit from an origin.
use Rattle.std.proofs.Common.{◌≡◌, ℕ, ◌-◌, drop, Some, slice_get, sym, ap, ◌∙◌, subst}
use Rattle.std.proofs.lemmas.Option.{same_Some}
use Rattle.srv6_rules.specs.declared.family.Family.TheVariants as families
use Rattle.srv6_rules.specs.declared.sid.SidEntry.{SidEntry}
use Rattle.srv6_rules.specs.Packet.{Packet}
use Rattle.net_model.specs.Network.{Network}
use Rattle.net_model.specs.NetworkKeeps.{Keeps}
use Rattle.walk_rules.specs.Way.{Into, way_of}
use Rattle.intent_reader.specs.IntentRulesTerms.{IsIntent}
use Rattle.intent_reader.specs.declared.intent.Intent.{Intent}
use Rattle.sid_list_theory.specs.ListPlaces as lists
use Rattle.sid_list_theory.specs.ListPlaces.{Tunnel, active, StandsOn, Along}
use Rattle.sid_list_theory.proofs.PublicLaws.{along_hop, along_sent}
use Rattle.list_pack.specs.SidLists.{list_sid}
use Rattle.leg_table.proofs.FlatNets.{FlatFacts}
use Rattle.leg_table.proofs.StrictAlike.{address_alike}
use Rattle.leg_table.proofs.ListPlaces.{address_at}
use Rattle.leg_table.proofs.TransitFacts.{TransitFacts, transit_facts_law, OriginFacts}
use Rattle.leg_table.proofs.StrictArrivals.{into_stands}
use Rattle.leg_table.specs.NestLegsTerms.{PlaceKeeps}
use Rattle.leg_table.specs.Transits.{Transit, transit_of}
use Rattle.leg_table.specs.TransitsTerms.{with_hop_limit}
use Rattle.leg_table.specs.PositionSids.{sid_address}
use Rattle.binding_spec.specs.declared.origin.Origin.{Origin}

-- a packet where it comes to by a transit
abbrev pub there : Packet → Transit → Packet
there p r = with_hop_limit (p.hop_limit - r.lowered) p

module _ (net : Network) (keeps : Keeps net) (facts : FlatFacts net) (intent : Intent) (is_intent : IsIntent net intent) (t : Tunnel) where
  pub record Comes (st : Origin) (x : lists.ListPlace) (hop : ℕ) (p : Packet) (n : ℕ) (r : Transit) : Type 0 where
    pub started : OriginFacts net intent st.done st.place
    pub transit : transit_of net p.destination (drop st.done intent.steps) st.place ≡ Some r
    pub passed : TransitFacts net p.destination (drop st.done intent.steps) st.place r
    pub is_sid : r.sid ≡ n
    pub sid : SidEntry
    pub is_there : slice_get net.sids n ≡ Some sid
    pub node : sid.node ≡ r.place.node
    pub family : r.place.family ≡ families.V6
    pub into : way_of net r.place p.destination ≡ Into n
    pub on : StandsOn sid (active x)
    pub limit : p.hop_limit ≡ hop
    pub along : Along t x (hop - r.lowered) (there p r)

  -- by a transit that is known for the packet's own destination
  pub comes_by : (st : Origin) (x : lists.ListPlace) (hop : ℕ) (p : Packet) (n : ℕ) (s : SidEntry) (r : Transit)
      → OriginFacts net intent st.done st.place → Along t x hop p → slice_get net.sids n ≡ Some s → active x ≡ list_sid net s.prefix
      → transit_of net p.destination (drop st.done intent.steps) st.place ≡ Some r → r.sid ≡ n → Comes st x hop p n r
  comes_by st x hop p n s r origin along at is transit is_sid =
      let f = transit_facts_law net keeps p.destination (drop st.done intent.steps) st.place r origin.how origin.rest transit in
      let into : way_of net r.place p.destination ≡ Into n = f.into ∙ ap Into is_sid in
      let stands = into_stands net keeps intent is_intent r.place p.destination n into in
      let same : stands.0 ≡ s = same_Some _ _ (sym stands.1 ∙ at) in
      let limit = along_hop t x hop p along in
      record {
        started = origin;
        transit = transit;
        passed = f;
        is_sid = is_sid;
        sid = s;
        is_there = at;
        node = ap (λ (e : SidEntry). e.node) (sym same) ∙ stands.2;
        family = f.family ∙ origin.family;
        into = into;
        on = subst (StandsOn s) (sym is) (facts.suits.stands n s at);
        limit = limit;
        along =
            subst (λ (h : ℕ). Along t x h (there p r)) (ap (λ (h : ℕ). h - r.lowered) limit)
            (along_sent t x hop (p.hop_limit - r.lowered) p along);
      }

  -- by the transit to a SID that is active there
  pub comes_to : (st : Origin) (x : lists.ListPlace) (hop : ℕ) (p : Packet) (n : ℕ) (s : SidEntry) (r : Transit)
      → OriginFacts net intent st.done st.place → Along t x hop p → PlaceKeeps net x → slice_get net.sids n ≡ Some s
      → active x ≡ list_sid net s.prefix
      → transit_of net (sid_address net n) (drop st.done intent.steps) st.place ≡ Some r → r.sid ≡ n → Comes st x hop p n r
  comes_to st x hop p n s r origin along nests at is transit is_sid =
      let to = address_at net keeps facts t x hop p n s along nests at is in
      comes_by st x hop p n s r origin along at is
      (address_alike net facts n s at p.destination to (drop st.done intent.steps) st.place origin.family ∙ transit) is_sid
