-- The SID that is executed first of a packet at a place of a list which is handed over along steps, with the same marks, under every row of
-- choices: it is one for all of them.
use Rattle.std.proofs.Common.{◌≡◌, ℕ, ◌+◌, ◌-◌, ◌<◌, ◌≤◌, true, false, ◌==◌, ◌&&◌, List, ◌∷◌, take, drop, length, All, Option, Some, None, slice_get, refl, sym, ◌∙◌, ap, subst, arith, length-append}
use Rattle.std.specs.Prelude.{nat_le}
use Rattle.std.specs.Option.{option_map}
use Rattle.std.proofs.lemmas.Bool.{and_from, and_parts, eq-eqb, le-leb}
use Rattle.std.proofs.lemmas.List.{take-append-drop}
use Rattle.std.proofs.lemmas.List.Elements.{All-head}
use Rattle.v6_addr.specs.Address.{PrefixValue}
use Rattle.srv6_rules.specs.declared.family.Family.TheVariants as families
use Rattle.srv6_rules.specs.declared.sid.SidEntry.{SidEntry}
use Rattle.srv6_rules.specs.Packet.{Packet, V6}
use Rattle.net_model.specs.Network.{Network}
use Rattle.net_model.specs.NetworkRulesTerms.{IsNetwork}
use Rattle.net_model.specs.NetworkKeeps.{Keeps}
use Rattle.net_flatness.specs.Flat.{IsFlat}
use Rattle.walk_rules.specs.declared.place.Place.{Place}
use Rattle.walk_rules.specs.Walk.{free_walk_of as walk_of}
use Rattle.walk_rules.specs.Way.{Into, way_of}
use Rattle.intent_reader.specs.declared.intent.Intent.{Intent}
use Rattle.sid_list_theory.specs.ListPlaces as lists
use Rattle.sid_list_theory.specs.ListPlaces.{Tunnel, Along, StandsOn, active}
use Rattle.list_pack.specs.SidLists.{IsSidPrefix, list_sid}
use Rattle.list_pack.specs.LegsValueTerms.{IsVia}
use Rattle.intent_traces.specs.declared.trace_steps.TraceStep.{TraceStep}
use Rattle.loose_walks.specs.WayGraphsTerms.{IsLeft}
use Rattle.loose_walks.proofs.Reaching.{left_further}
use Rattle.leg_table.proofs.FlatNets.{FlatFacts}
use Rattle.leg_table.proofs.StrictHanding.{walk_same}
use Rattle.leg_table.proofs.ListPlaces.{address_at, own_here_law}
use Rattle.leg_table.proofs.NextTransits.{middle_sid}
use Rattle.leg_table.proofs.Segments.{into_prefix}
use Rattle.leg_table.proofs.StrictLaws.{shape_middle}
use Rattle.leg_table.specs.StrictLegs.{place_behind, place_from}
use Rattle.leg_table.specs.StrictLegsTerms.{IsAddressOf}
use Rattle.leg_table.specs.NestLegsTerms.{PlaceKeeps}
use Rattle.leg_table.specs.OneLegLaws.{AlwaysHands, LegKind}
use Rattle.leg_table.specs.Realizes.{headend_place}
use Rattle.leg_table.specs.TransitsTerms.{with_hop_limit}
use Rattle.leg_table.specs.PositionSids.{is_binding, is_middle, prefix_at, prefix_by}
use Rattle.leg_table.specs.WalkTrace.{TraceEvent, Executed, Handed}
use Rattle.loose_legs_theory.proofs.LooseLegPositions.{contained_sid}
use Rattle.loose_spec.specs.LooseSids.{is_sid_at, is_origin}
use Rattle.loose_legs_theory.specs.LooseStepsTerms.{AreSteps}
use Rattle.loose_legs_theory.proofs.LooseSentenceWays.{start_at_law}
use Rattle.loose_meaning_theory.specs.LooseKind.{hand_of, kept_from, left_on, loose_kind}
use Rattle.loose_meaning_theory.proofs.LooseKindStages.{Hands, hand_one}
use Rattle.loose_meaning_theory.proofs.OneLegKept.{on_left}
use Rattle.loose_meaning_theory.proofs.Executing.{Met, met}
use Rattle.loose_meaning_theory.proofs.OneLegUp.{node_is}

three_heads : (a b c d : ℕ) (xs ys : List ℕ) → Path (List ℕ) (a ∷ b ∷ xs) (c ∷ d ∷ ys) → (a ≡ c) × (b ≡ d) × (xs ≡ ys)
three_heads a b c d xs ys e = (cc, cc, cc)

pub same_trace : (n : ℕ) (xs ys : List TraceEvent) → Path (List TraceEvent) (Executed n ∷ xs) (Executed n ∷ ys) → xs ≡ ys
same_trace n xs ys e = cc

left_few : (steps us : List TraceStep) → IsLeft steps us → length us ≤ length steps
left_few steps us left =
    let long : length steps ≡ length left.0 + length us = ap length left.1 ∙ length-append left.0 us in omega (arith, long)

same_rest : (count a b : ℕ) → a ≤ count → b ≤ count → count - a ≡ count - b → a ≡ b
same_rest count a b few also e = omega (arith, few, also, e)

-- a flat network with steps along which packets of a family are encapsulated
pub record Setting (net : Network) (intent : Intent) (steps : List TraceStep) (tunnel : Tunnel) : Type 0 where
  pub network : IsNetwork net
  pub flat : IsFlat net
  pub facts : FlatFacts net
  pub keeps : Keeps net
  pub are : AreSteps net intent steps
  pub family : tunnel.inner ≡ intent.inner

module _ (net : Network) (intent : Intent) (steps : List TraceStep) (tunnel : Tunnel) (c : Setting net intent steps tunnel) where
  abbrev k : LegKind
  k = loose_kind net intent steps

  abbrev count : ℕ
  count = length steps

  -- ---- where the packet starts from

  pub starts : (position : ℕ) (via : Option ℕ) → position ≤ count → IsVia k.legs position via
      → is_origin net intent steps position via ≡ true
  starts position None within at =
      and_from (nat_le position count) (position == 0) (le-leb position count within) (eq-eqb position 0 at)
  starts position (Some n) within at =
      and_from (nat_le position count) (is_sid_at net intent steps position n && is_middle net n) (le-leb position count within)
      (and_from (is_sid_at net intent steps position n) (is_middle net n) (contained_sid net c.keeps intent steps position n at.0)
      (sym (shape_middle net.blocks (slice_get net.sids n)) ∙ at.1))

  pub from : (position : ℕ) (via : Option ℕ) → is_origin net intent steps position via ≡ true
      → (place : Place) × (place_from net intent via ≡ Some place)
  from position None start = (headend_place intent, refl)
  from position (Some n) start =
      let via = and_parts (nat_le position count) (is_sid_at net intent steps position n && is_middle net n) start in
      let s = middle_sid net n (and_parts (is_sid_at net intent steps position n) (is_middle net n) via.1).1 in
      (place_behind n s.0, ap (option_map (place_behind n)) s.1)

  -- ---- under every row of choices, from any decision on

  abbrev pub Unbound : List ℕ → Type 0
  Unbound ns = All (λ n. is_binding net n ≡ false) ns

  abbrev pub Always : Place → Packet → List TraceStep → List ℕ → Type 0
  Always place p ts marks =
      (pick : ℕ → ℕ) (taken : ℕ) → (h : Handed) × Hands net place (V6 p) pick taken h × (kept_from net count ts h.trace ≡ Some marks)
      × Unbound h.sids

  pub always : (position : ℕ) (via : Option ℕ) (p : Packet) (place : Place) → place_from net intent via ≡ Some place
      → (hands : AlwaysHands k via p position) → Always place p (drop position steps) hands.0
  always position via p place is hands pick taken =
      let picks : ℕ → ℕ = λ d. pick (taken + d) in
      let h = hands.1 picks in (
        h.0,
        (
          h.1.0,
          ap (hand_of net) (sym (walk_same net h.1.0 (Some place) (V6 p) picks pick 0 taken (λ d. at d)))
              ∙ ap (λ (o : Option Place). hand_of net (walk_of h.1.0 net o (V6 p) picks 0)) (sym is)
              ∙ h.1.1,
        ),
        h.2,
        h.3,
      )
    where
      at : (d : ℕ) → pick (taken + (0 + d)) ≡ pick (taken + d)
      at d = ap pick (omega arith)

  -- a packet at a place of a list, to a prefix, that is handed over under every row from where it starts
  pub record HandsAt (position : ℕ) (via : Option ℕ) (x : lists.ListPlace) (q : PrefixValue) (hop : ℕ) (p : Packet) : Type 0 where
    pub place : Place
    pub start : is_origin net intent steps position via ≡ true
    pub from : place_from net intent via ≡ Some place
    pub along : Along tunnel x hop p
    pub nests : PlaceKeeps net x
    pub to : active x ≡ list_sid net q
    pub named : IsSidPrefix net q
    pub positive : 0 < hop
    pub marks : List ℕ
    pub all : Always place p (drop position steps) marks

  module _ (position : ℕ) (via : Option ℕ) (x : lists.ListPlace) (q : PrefixValue) (hop : ℕ) (p : Packet)
      (o : HandsAt position via x q hop p) where
    abbrev pub Mets : (ℕ → ℕ) → ℕ → Handed → Type 0
    Mets pick taken h = Met net count (drop position steps) o.place p pick taken h o.marks

    -- whatever is handed over keeps to the steps with these marks
    kept_any : (pick : ℕ → ℕ) (taken : ℕ) (h : Handed) → Hands net o.place (V6 p) pick taken h
        → (kept_from net count (drop position steps) h.trace ≡ Some o.marks) × Unbound h.sids
    kept_any pick taken h over =
        let own = o.all pick taken in
        let same = hand_one net o.place (V6 p) pick taken own.0 h own.1 over in (
          subst (λ (g : Handed). kept_from net count (drop position steps) g.trace ≡ Some o.marks) same own.2,
          subst (λ (g : Handed). Unbound g.sids) same own.3,
        )

    -- the packet with a hop limit, at its place in the list
    abbrev pub along_at : (limit : ℕ) → Along tunnel x limit (with_hop_limit limit p)
    along_at limit =
        record {
          routed = o.along.routed;
          packet = ap (λ (r : Packet). with_hop_limit limit r) o.along.packet;
          place = o.along.place;
          listed = o.along.listed;
          lacking = o.along.lacking;
        }

    -- SID n is executed first, with so many steps left behind it, and further marks
    pub record At (n : ℕ) (s : SidEntry) (left : ℕ) (later : List ℕ) (pick : ℕ → ℕ) (taken : ℕ) (h : Handed) : Type 0 where
      pub met : Mets pick taken h
      pub into : way_of net met.stop.stage.place p.destination ≡ Into n
      pub stands : s.node ≡ met.stop.stage.place.node
      pub is_v6 : met.stop.stage.place.family ≡ families.V6
      pub rest : List TraceStep
      pub on_is : left_on net met.stop.left (Executed n) ≡ Some rest
      pub long : length rest ≡ left
      pub last : IsLeft steps rest
      pub trace : List TraceEvent
      pub trace_is : met.behind.trace ≡ Executed n ∷ trace
      pub kept : kept_from net count rest trace ≡ Some later
      pub sids : List ℕ
      pub sids_is : met.behind.sids ≡ n ∷ sids

    -- and so it is for all rows
    pub record IsFirst : Type 0 where
      pub sid : ℕ
      pub entry : SidEntry
      pub there : slice_get net.sids sid ≡ Some entry
      pub prefix : prefix_at net sid ≡ q
      pub on : StandsOn entry (active x)
      pub address : IsAddressOf net sid p.destination
      pub unbound : is_binding net sid ≡ false
      pub finished : ℕ
      pub left : ℕ
      pub later : List ℕ
      pub marks_is : o.marks ≡ sid ∷ finished ∷ later
      pub each : (pick : ℕ → ℕ) (taken : ℕ) (h : Handed) → Hands net o.place (V6 p) pick taken h
          → At sid entry left later pick taken h

    behind_left : (pick : ℕ → ℕ) (taken : ℕ) (h : Handed) (m : Mets pick taken h) → IsLeft steps m.keeps.rest
    behind_left pick taken h m =
        left_further steps m.stop.left m.keeps.rest
        (left_further steps (drop position steps) m.stop.left (take position steps, sym (take-append-drop position steps)) m.last)
        (on_left net m.executed.sid m.stop.left m.keeps.rest m.keeps.on)

    -- two rows execute the same SID first, since their marks are one
    each_at : (pick : ℕ → ℕ) (taken : ℕ) (h : Handed) (m : Mets pick taken h) (other : ℕ → ℕ) (uaken : ℕ) (g : Handed)
        → Hands net o.place (V6 p) other uaken g
        → At m.executed.sid m.executed.entry (length m.keeps.rest) m.keeps.later other uaken g
    each_at pick taken h m other uaken g over =
        let kept = kept_any other uaken g over in
        let e = met net count (drop position steps) o.place p other uaken g o.marks over kept.0 in
        let heads = three_heads e.executed.sid (count - length e.keeps.rest) m.executed.sid (count - length m.keeps.rest) e.keeps.later
        m.keeps.later (sym e.keeps.marks_is ∙ m.keeps.marks_is) in
        let last = behind_left other uaken g e in
        let into : way_of net e.stop.stage.place p.destination ≡ Into m.executed.sid = e.executed.into ∙ ap Into heads.0 in
        let st = start_at_law net c.keeps intent steps c.are position via o.place o.start o.from in
        record {
          met = e;
          into = into;
          stands = node_is net e.stop.stage.place p.destination m.executed.sid m.executed.entry into m.executed.there;
          is_v6 = e.walked.family ∙ st.family;
          rest = e.keeps.rest;
          on_is = ap (λ (n : ℕ). left_on net e.stop.left (Executed n)) (sym heads.0) ∙ e.keeps.on;
          long = same_rest count (length e.keeps.rest) (length m.keeps.rest) (left_few steps e.keeps.rest last)
              (left_few steps m.keeps.rest (behind_left pick taken h m)) heads.1;
          last = last;
          trace = e.executed.trace;
          trace_is = e.executed.trace_is ∙ ap (λ (n : ℕ). Executed n ∷ e.executed.trace) heads.0;
          kept = e.keeps.kept ∙ ap (λ (ms : List ℕ). Some ms) heads.2;
          sids = e.executed.sids;
          sids_is = e.executed.sids_is ∙ ap (λ (n : ℕ). n ∷ e.executed.sids) heads.0;
        }

    pub first : IsFirst
    first =
        let own = o.all (λ d. 0) 0 in
        let m = met net count (drop position steps) o.place p (λ d. 0) 0 own.0 o.marks own.1 own.2 in
        let n = m.executed.sid in
        let s = m.executed.entry in
        let own_here = own_here_law net c.keeps c.facts tunnel x hop p o.named.0 o.named.1 o.along o.nests o.named.2
        (o.to ∙ ap (list_sid net) (sym o.named.3)) in
        let prefix : s.prefix ≡ q
        = sym (into_prefix net c.network c.flat m.stop.stage.place o.named.0 n p.destination o.named.1 s o.named.2 m.executed.there own_here
        m.executed.into) ∙ o.named.3 in
        let same : active x ≡ list_sid net s.prefix = o.to ∙ ap (list_sid net) (sym prefix) in
        let sids : own.0.sids ≡ n ∷ m.executed.sids = sym (ap (λ (g : Handed). g.sids) m.is) ∙ m.executed.sids_is in
        record {
          sid = n;
          entry = s;
          there = m.executed.there;
          prefix = ap prefix_by m.executed.there ∙ prefix;
          on = subst (StandsOn s) (sym same) (c.facts.suits.stands n s m.executed.there);
          address = address_at net c.keeps c.facts tunnel x hop p n s o.along o.nests m.executed.there same;
          unbound = All-head (λ (a : ℕ). is_binding net a ≡ false) n m.executed.sids (subst Unbound sids own.3);
          finished = count - length m.keeps.rest;
          left = length m.keeps.rest;
          later = m.keeps.later;
          marks_is = m.keeps.marks_is;
          each = λ pick taken h over. each_at (λ d. 0) 0 own.0 m pick taken h over;
        }
