-- The legs of an intent in a network keep the laws of legs.
use Rattle.std.proofs.Common.{◌≡◌, ℕ, ◌+◌, ◌-◌, ◌<◌, ◌≤◌, Bool, true, false, ◌==◌, ◌&&◌, ◌||◌, nat_lt, List, [], ◌∷◌, length, drop, Option, Some, None, slice_get, Contains, refl, sym, ◌∙◌, ap, subst, arith, eqb-true, nat_le}
use Rattle.std.specs.Prelude.{is_some}
use Rattle.std.proofs.lemmas.Bool.{false≢true, and_parts, and_from, leb-true}
use Rattle.v6_addr.specs.Address.{PrefixValue}
use Rattle.srv6_rules.specs.declared.sid.SidEntry.{SidEntry}
use Rattle.net_model.specs.Network.{Network}
use Rattle.net_model.specs.NetworkKeeps.{Keeps}
use Rattle.intent_reader.specs.IntentRulesTerms.{IsIntent}
use Rattle.intent_reader.specs.declared.intent.Intent.{Intent}
use Rattle.intent_reader.proofs.PublicLaws.{sid_costs_few}
use Rattle.list_pack.specs.declared.types.Leg.{Leg}
use Rattle.leg_table.specs.Transits.{Transit, transit_of}
use Rattle.leg_table.specs.PositionSids.{comes_before, sid_goes_on, is_middle, first_address, sid_address, sid_before, sids_of, is_sid_at}
use Rattle.leg_table.specs.PositionSidsTerms.{in_order}
use Rattle.leg_table.specs.StrictTable.{shape_by, shape_of, node_of}
use Rattle.leg_table.specs.StrictLegsTerms.{is_via, is_origin, leg_of, finish_of}
use Rattle.list_pack.specs.ListOrder.{lex_before}
use Rattle.list_pack.specs.LegsValue.{LegsValue}
use Rattle.list_pack.specs.LegsValueTerms.{IsVia, comes_to, ascends, IsLegOf, IsFinishOf, KeepsLaws}
use Rattle.leg_table.specs.StrictLegsValue.{legs_value}
use Rattle.leg_table.proofs.FlatNets.{FlatFacts}
use Rattle.net_model.specs.declared.parts.Block.{Block}
use Rattle.leg_table.proofs.Shapes.{shape_is, shapes_share}
use Rattle.leg_table.proofs.StrictOptions.{some_same}
use Rattle.leg_table.proofs.TransitFacts.{start_facts, intent_stands}
use Rattle.leg_table.proofs.NextTransits.{NextTransit, leg_transit, finish_transit}
use Rattle.leg_table.proofs.StrictArrivals.{Arrives, transit_arrives, transit_few, at_end_law}
use Rattle.leg_table.proofs.StrictPositions.{are_sids, sids_few}

pub shape_middle : (blocks : List Block) (o : Option SidEntry) → (shape_by blocks o).middle ≡ sid_goes_on o
shape_middle blocks None = refl
shape_middle blocks (Some s) = refl

pub shape_address : (blocks : List Block) (o : Option SidEntry) → (shape_by blocks o).prefix.value ≡ first_address o
shape_address blocks None = refl
shape_address blocks (Some s) = refl

-- what comes to a SID comes by a leg or a finish
pub comes_by : (v : LegsValue) (P : Type 0) (position : ℕ) (via : Option ℕ) (next : ℕ)
    → ((leg : Leg) → v.leg position via next ≡ Some leg → P) → ((lowered : ℕ) → v.finish position via next ≡ Some lowered → P)
    → comes_to v position via next ≡ true → P
comes_by v P position via next along at_end h = by_leg (v.leg position via next) refl h
  where
    by_finish : (o : Option ℕ) → v.finish position via next ≡ o → is_some o ≡ true → P
    by_finish None e h = absurd (false≢true h)
    by_finish (Some lowered) e h = at_end lowered e

    by_leg : (o : Option Leg) → v.leg position via next ≡ o → (is_some o || is_some (v.finish position via next)) ≡ true → P
    by_leg None e h = by_finish (v.finish position via next) refl h
    by_leg (Some leg) e h = along leg e

-- a lower prefix comes before, whatever the nodes are
before_node : (a b c d : Bool) → (a || (b && c)) ≡ true → (a || (b && (c || d))) ≡ true
before_node true b c d h = refl
before_node false true true d h = refl
before_node false true false d h = absurd (false≢true h)
before_node false false c d h = absurd (false≢true h)

key_before : (p q : PrefixValue) (m n : ℕ) → comes_before p q ≡ true
    → lex_before (p.value ∷ p.len ∷ m ∷ []) (q.value ∷ q.len ∷ n ∷ []) ≡ true
key_before p q m n h =
    before_node (nat_lt p.value q.value) (p.value == q.value) (nat_lt p.len q.len)
    ((p.len == q.len) && (nat_lt m n || ((m == n) && false))) h

before_shapes : (blocks : List Block) (o q : Option SidEntry) (m n : ℕ) → sid_before o q ≡ true
    → lex_before ((shape_by blocks o).prefix.value ∷ (shape_by blocks o).prefix.len ∷ m ∷ [])
    ((shape_by blocks q).prefix.value ∷ (shape_by blocks q).prefix.len ∷ n ∷ [])
    ≡ true
before_shapes blocks None q m n h = absurd (false≢true h)
before_shapes blocks (Some s) None m n h = absurd (false≢true h)
before_shapes blocks (Some s) (Some t) m n h = key_before s.prefix t.prefix m n h

ascends_from : (net : Network) (intent : Intent) (xs : List ℕ) → in_order net xs ≡ true → ascends (legs_value net intent) xs ≡ true
ascends_from net intent [] h = refl
ascends_from net intent (n ∷ []) h = refl
ascends_from net intent (n ∷ m ∷ ms) h =
    let parts = and_parts (sid_before (slice_get net.sids n) (slice_get net.sids m)) (in_order net (m ∷ ms)) h in
    and_from _ (ascends (legs_value net intent) (m ∷ ms))
    (before_shapes net.blocks (slice_get net.sids n) (slice_get net.sids m) (node_of net n) (node_of net m) parts.0)
    (ascends_from net intent (m ∷ ms) parts.1)

module _ (net : Network) (keeps : Keeps net) (intent : Intent) (is_intent : IsIntent net intent) where
  arrives : (position : ℕ) (via : Option ℕ) (next : ℕ) (n : NextTransit net intent position via next)
      → Arrives net keeps intent is_intent position next n.left
  arrives position via next n =
      let s = start_facts net keeps intent is_intent position via n.place n.start n.from in
      transit_arrives net keeps intent is_intent position n.place s next n.transit n.is_transit n.sid n.left n.left_is

  via_is_law : (position : ℕ) (via : Option ℕ) → is_origin net intent position via ≡ true
      → (position ≤ length intent.steps) × IsVia (legs_value net intent) position via
  via_is_law position None start =
      let parts = and_parts (nat_le position (length intent.steps)) (position == 0) start in
      (leb-true position (length intent.steps) parts.0, eqb-true position 0 parts.1)
  via_is_law position (Some v) start =
      let parts = and_parts (nat_le position (length intent.steps)) (is_via net intent position (Some v)) start in
      let at = and_parts (is_sid_at net intent position v) (is_middle net v) parts.1 in (
        leb-true position (length intent.steps) parts.0,
        (((are_sids net keeps intent position).each v).1 at.0, shape_middle net.blocks (slice_get net.sids v) ∙ at.1),
      )

  few_lowered : (position : ℕ) (via : Option ℕ) (next : ℕ) → (n : NextTransit net intent position via next) → n.transit.lowered ≤ 48
  few_lowered position via next n =
      let s = start_facts net keeps intent is_intent position via n.place n.start n.from in
      transit_few net keeps intent is_intent position n.place s (sid_address net next) n.transit n.is_transit

  law_leg : (position : ℕ) (via : Option ℕ) (next : ℕ) (leg : Leg) → leg_of net intent position via next ≡ Some leg
      → IsLegOf (legs_value net intent) position via next leg
  law_leg position via next leg h =
      let got = leg_transit net intent position via next leg h in
      let n = got.0 in
      let at = at_end_law net keeps intent is_intent position next n.left (arrives position via next n) in
      let via_is = via_is_law position via n.start in
      let low = few_lowered position via next n in
      subst (IsLegOf (legs_value net intent) position via next) got.2
      (record {
        start = via_is.0;
        from_via = via_is.1;
        forward = omega (arith, at.1, at.2);
        within = omega arith;
        is_next =
            subst (λ (to : ℕ). Contains (sids_of net intent to) next) (sym at.1) (((are_sids net keeps intent at.0).each next).1 at.4);
        middle = shape_middle net.blocks (slice_get net.sids next) ∙ got.1;
        hops = omega arith;
      })

  law_finish : (position : ℕ) (via : Option ℕ) (next lowered : ℕ) → finish_of net intent position via next ≡ Some lowered
      → IsFinishOf (legs_value net intent) position via next lowered
  law_finish position via next lowered h =
      let got = finish_transit net intent position via next lowered h in
      let n = got.0 in
      let at = at_end_law net keeps intent is_intent position next n.left (arrives position via next n) in
      let via_is = via_is_law position via n.start in
      let low = few_lowered position via next n in
      let last : length intent.steps ≡ at.0 = omega (arith, at.1, got.3) in
      record {
        start = via_is.0;
        from_via = via_is.1;
        is_next = subst (λ (to : ℕ). Contains (sids_of net intent to) next) (sym last)
            (((are_sids net keeps intent at.0).each next).1 at.4);
        hops = omega (arith, got.2);
      }

  -- what comes to a SID is a transit
  comes_transit : (position : ℕ) (via : Option ℕ) (next : ℕ) → comes_to (legs_value net intent) position via next ≡ true
      → NextTransit net intent position via next
  comes_transit position via next h =
      comes_by (legs_value net intent) (NextTransit net intent position via next) position via next
      (λ leg e. (leg_transit net intent position via next leg e).0)
      (λ lowered e. (finish_transit net intent position via next lowered e).0) h

  -- transits to SIDs with one first address are one
  same_transits : (position : ℕ) (via : Option ℕ) (next other : ℕ) (n : NextTransit net intent position via next)
      → (m : NextTransit net intent position via other) → sid_address net next ≡ sid_address net other → n.transit ≡ m.transit
  same_transits position via next other n m address =
      let place : n.place ≡ m.place = some_same n.place m.place (sym n.from ∙ m.from) in
      some_same n.transit m.transit
      (sym n.is_transit
      ∙ ap (λ (d : ℕ). transit_of net d (drop position intent.steps) n.place) address
      ∙ ap (transit_of net (sid_address net other) (drop position intent.steps)) place
      ∙ m.is_transit)

  law_one : (position : ℕ) (via : Option ℕ) (next other : ℕ) → comes_to (legs_value net intent) position via next ≡ true
      → comes_to (legs_value net intent) position via other ≡ true → (shape_of net next).prefix ≡ (shape_of net other).prefix
      → next ≡ other
  law_one position via next other h k e =
      let n = comes_transit position via next h in
      let m = comes_transit position via other k in
      let address : sid_address net next ≡ sid_address net other
      = sym (shape_address net.blocks (slice_get net.sids next)) ∙ ap (λ (p : PrefixValue). p.value) e
      ∙ shape_address net.blocks (slice_get net.sids other) in
      sym n.sid ∙ ap (λ (r : Transit). r.sid) (same_transits position via next other n m address) ∙ m.sid

  -- a leg lowers at the execution too, and a finish on the same transit does not
  law_above : (position : ℕ) (via : Option ℕ) (next : ℕ) (leg : Leg) (lowered : ℕ) → leg_of net intent position via next ≡ Some leg
      → finish_of net intent position via next ≡ Some lowered → lowered < leg.hops
  law_above position via next leg lowered h k =
      let a = leg_transit net intent position via next leg h in
      let b = finish_transit net intent position via next lowered k in
      let hops : a.0.transit.lowered + 1 ≡ leg.hops = ap (λ (l : Leg). l.hops) a.2 in
      let same : a.0.transit.lowered ≡ b.0.transit.lowered
      = ap (λ (r : Transit). r.lowered) (same_transits position via next next a.0 b.0 refl) in
      omega (arith, hops, same, b.2)

  laws : FlatFacts net → KeepsLaws (legs_value net intent)
  laws facts =
      record {
        steps = (intent_stands net intent is_intent).1;
        sid_cost = sid_costs_few intent.prefer;
        sids_count = λ position within. let few = sids_few net keeps intent position in omega arith;
        sids_order = λ position within. ascends_from net intent (sids_of net intent position) (are_sids net keeps intent position).order;
        shapes = λ n is_sid. shape_is net keeps facts n;
        blocks = λ n m is_sid is_other same. shapes_share net keeps n m same;
        leg = law_leg;
        finish = law_finish;
        one_of_prefix = law_one;
        above_finish = law_above;
      }

-- the legs of an intent that keeps the rules, in a flat network
pub strict_laws : (net : Network) (intent : Intent) → Keeps net → FlatFacts net → IsIntent net intent → KeepsLaws (legs_value net intent)
strict_laws net intent keeps facts is_intent = laws net keeps intent is_intent facts
