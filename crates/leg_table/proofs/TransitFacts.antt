-- What is known of a transit that is there, and of the place and the steps that it starts from.
use Rattle.std.proofs.Common.{◌≡◌, ℕ, suc, ◌+◌, ◌^◌, ◌<◌, ◌≤◌, Bool, true, false, ◌==◌, List, [], ◌∷◌, ◌++◌, length, take, drop, Option, Some, None, slice_get, refl, sym, ◌∙◌, ap, subst, arith, eqb-true}
use Rattle.std.specs.Prelude.{is_some, nat_le, nat_lt}
use Rattle.std.specs.List.{list_all}
use Rattle.std.specs.Option.{option_map, option_and_then}
use Rattle.std.proofs.lemmas.Bool.{false≢true, and_parts, leb-true, ltb-true}
use Rattle.std.proofs.lemmas.List.{take-append-drop}
use Rattle.srv6_rules.specs.declared.family.Family.TheVariants as families
use Rattle.srv6_rules.specs.declared.sid.SidEntry.{SidEntry}
use Rattle.net_model.specs.Network.{Network}
use Rattle.net_model.specs.NetworkKeeps.{Keeps}
use Rattle.walk_rules.specs.declared.place.Place.{Place}
use Rattle.walk_rules.specs.Way.{Way, NoWay, Over, Own, Into, way_of}
use Rattle.walk_rules.specs.WayTerms.{IsWayFrom}
use Rattle.walk_rules.specs.Relation.{IsHow}
use Rattle.walk_rules.specs.declared.place.Outcome.TheVariants as outcomes
use Rattle.walk_rules.specs.Treatment.{member_of}
use Rattle.walk_rules.specs.Walk.{arrival, next_place}
use Rattle.walk_rules.proofs.PublicLaws.{sid_how, way_from}
use Rattle.intent_reader.specs.IntentRules.{stand_after, first_end, node_after, is_at}
use Rattle.intent_reader.specs.IntentRulesTerms.{IsIntent, is_intent}
use Rattle.intent_reader.specs.declared.intent.Step.{Step}
use Rattle.intent_reader.specs.declared.intent.Step.TheVariants.{Links, Function, Reach}
use Rattle.intent_reader.specs.declared.intent.Intent.{Intent}
use Rattle.leg_table.specs.StepMatching.{has_link}
use Rattle.leg_table.specs.Transits.{Transit, one_if, more_lowered, transit_on, transit_by, transit_end, transit_of}
use Rattle.leg_table.specs.PositionSids.{is_sid_at, sid_suits, title_suits, is_middle, node_at, step_before}
use Rattle.leg_table.specs.StrictLegs.{place_behind, place_from}
use Rattle.leg_table.specs.StrictLegsTerms.{is_via, is_origin}
use Rattle.leg_table.proofs.StrictLinks.{is_at_is, member_of_all, far_end_is, link_ends, first_end_is, step_opens}
use Rattle.leg_table.proofs.StrictOptions.{map_some, if_some, some_same}
use Rattle.leg_table.proofs.StrictTransits.{arrived}

-- ---- transits, a step at a time

-- a packet to a destination is sent in a step: on links of the step, to where they all end
pub record IsSent (net : Network) (destination : ℕ) (step : List ℕ) (place : Place) (set : List ℕ) (lower : Bool) (to : ℕ) : Type 0 where
  pub way : way_of net place destination ≡ Over set lower
  pub member : (choice : ℕ) → has_link step (member_of set choice) ≡ true
  pub leads : (choice : ℕ) → next_place net place (outcomes.Send (member_of set choice)) ≡ Some (arrived to place)
  pub lands : node_after net place.node (Links step) ≡ Some to

-- what holds where a transit comes into a SID, and holds of a transit that begins with a step if it holds from there on, holds of all transits
module _ (net : Network) (keeps : Keeps net) (destination : ℕ) (P : List Step → Place → Transit → Type 0)
    (here : (ts : List Step) (place : Place) (n : ℕ) → way_of net place destination ≡ Into n
    → P ts place (record { sid = n; place = place; left = ts; lowered = 0 }))
    (later : (step : List ℕ) (ts : List Step) (place : Place) (set : List ℕ) (lower : Bool) (to : ℕ) (r : Transit)
    → IsSent net destination step place set lower to → P ts (arrived to place) r → P (Links step ∷ ts) place (more_lowered lower r)) where
  pub transit_each : (ts : List Step) (place : Place) (r : Transit) → IsHow net place.node place.how
      → is_some (stand_after net place.node ts) ≡ true → transit_of net destination ts place ≡ Some r → P ts place r
  transit_each [] place r how stands h = by_way (way_of net place destination) refl h
    where
      by_way : (w : Way) → way_of net place destination ≡ w → transit_end place w ≡ Some r → P [] place r
      by_way (NoWay reason) e h = absurd (cc)
      by_way Own e h = absurd (cc)
      by_way (Over set lower) e h = absurd (cc)
      by_way (Into n) e h = subst (P [] place) (some_same _ r h) (here [] place n e)
  transit_each (t ∷ ts) place r how stands h =
      by_way t (way_of net place destination) refl (way_from net place destination keeps how) stands h
      (λ to q stands h. transit_each ts (arrived to place) q tt stands h)
    where
      by_way : (t : Step) (w : Way) → way_of net place destination ≡ w → IsWayFrom net place.node w
          → is_some (stand_after net place.node (t ∷ ts)) ≡ true
          → transit_by net place (t ∷ ts) t (transit_of net destination ts) w ≡ Some r
          → ((to : ℕ) (q : Transit) → is_some (stand_after net to ts) ≡ true → transit_of net destination ts (arrived to place) ≡ Some q
          → P ts (arrived to place) q)
          → P (t ∷ ts) place r
      by_way t (NoWay reason) e links stands h ih = absurd (cc)
      by_way t Own e links stands h ih = absurd (cc)
      by_way t (Into n) e links stands h ih = subst (P (t ∷ ts) place) (some_same _ r h) (here (t ∷ ts) place n e)
      by_way (Function sid) (Over set lower) e links stands h ih = absurd (cc)
      by_way (Reach node) (Over set lower) e links stands h ih = absurd (cc)
      by_way (Links step) (Over set lower) e links stands h ih =
          let opened = step_opens net place.node step ts stands in
          let all = if_some (list_all (has_link step) set) _ r h in
          let got = map_some (more_lowered lower) _ r all.1 in
          let at : first_end net set ≡ Some opened.0 = first_end_is net opened.0 step set opened.1 all.0 links.some in
          let on : transit_of net destination ts (arrived opened.0 place) ≡ Some got.0
          = ap (λ (o : Option ℕ). transit_on (arrival o place) (transit_of net destination ts)) (sym at) ∙ got.1 in
          let member = member_of_all (has_link step) set links.some all.0 in
          subst (P (Links step ∷ ts) place) got.2
          (later step ts place set lower opened.0 got.0
          (record {
            way = e;
            member = member;
            leads = λ choice.
                ap (λ (o : Option ℕ). arrival o place)
                (far_end_is (slice_get net.links (member_of set choice))
                ∙ link_ends net opened.0 step (member_of set choice) opened.1 (member choice));
            lands = opened.3;
          })
          (ih opened.0 got.0 opened.2 on))

pub record TransitFacts (net : Network) (destination : ℕ) (ts : List Step) (place : Place) (r : Transit) : Type 0 where
  pub count : ℕ
  pub within : count ≤ length ts
  pub left : r.left ≡ drop count ts
  pub lowered : r.lowered ≤ count
  pub into : way_of net r.place destination ≡ Into r.sid
  pub stands : stand_after net place.node (take count ts) ≡ Some r.place.node
  pub family : r.place.family ≡ place.family

pub transit_facts_law : (net : Network) → Keeps net → (destination : ℕ) (ts : List Step) (place : Place) (r : Transit)
    → IsHow net place.node place.how → is_some (stand_after net place.node ts) ≡ true → transit_of net destination ts place ≡ Some r
    → TransitFacts net destination ts place r
transit_facts_law net keeps destination =
    transit_each net keeps destination (TransitFacts net destination)
    (λ ts place n e.
    record { count = 0; within = omega arith; left = refl; lowered = omega arith; into = e; stands = refl; family = refl })
    (λ step ts place set lower to r sent f.
    record {
      count = suc f.count;
      within = omega (arith, f.within);
      left = f.left;
      lowered = bound lower r.lowered f.count f.lowered;
      into = f.into;
      stands = ap (option_and_then (λ next. stand_after net next (take f.count ts))) sent.lands ∙ f.stands;
      family = f.family;
    })
  where
    bound : (lower : Bool) (lowered count : ℕ) → lowered ≤ count → one_if lower + lowered ≤ suc count
    bound true lowered count few = omega arith
    bound false lowered count few = omega arith

-- where the walk stands after some steps and then others
pub stand_after_append : (net : Network) (node : ℕ) (xs ys : List Step)
    → stand_after net node (xs ++ ys) ≡ option_and_then (λ n. stand_after net n ys) (stand_after net node xs)
stand_after_append net node [] ys = refl
stand_after_append net node (x ∷ xs) ys = by_next (node_after net node x) (λ next. stand_after_append net next xs ys)
  where
    by_next : (o : Option ℕ)
        → ((next : ℕ) → stand_after net next (xs ++ ys) ≡ option_and_then (λ n. stand_after net n ys) (stand_after net next xs))
        → option_and_then (λ next. stand_after net next (xs ++ ys)) o
        ≡ option_and_then (λ n. stand_after net n ys) (option_and_then (λ next. stand_after net next xs) o)
    by_next None ih = refl
    by_next (Some next) ih = ih next

pub stand_after_split : (net : Network) (node to : ℕ) (steps : List Step) (position : ℕ)
    → stand_after net node (take position steps) ≡ Some to
    → stand_after net node steps ≡ stand_after net to (drop position steps)
stand_after_split net node to steps position e =
    ap (stand_after net node) (sym (take-append-drop position steps))
    ∙ stand_after_append net node (take position steps) (drop position steps)
    ∙ ap (option_and_then (λ n. stand_after net n (drop position steps))) e

-- a SID of a position is there, and stands where the walk stands
pub sid_at : (net : Network) (intent : Intent) (position n : ℕ) → is_sid_at net intent position n ≡ true
    → (s : SidEntry) × (slice_get net.sids n ≡ Some s) × (node_at net intent position ≡ Some s.node)
    × (title_suits n (step_before intent.steps position) s.title ≡ true)
sid_at net intent position n h = by_sid (slice_get net.sids n) refl h
  where
    by_sid : (o : Option SidEntry) → slice_get net.sids n ≡ o
        → sid_suits n (node_at net intent position) (step_before intent.steps position) o ≡ true
        → (s : SidEntry) × (slice_get net.sids n ≡ Some s) × (node_at net intent position ≡ Some s.node)
        × (title_suits n (step_before intent.steps position) s.title ≡ true)
    by_sid None e h = absurd (false≢true h)
    by_sid (Some s) e h =
        let parts = and_parts (is_at s.node (node_at net intent position)) (title_suits n (step_before intent.steps position) s.title) h in
        (s, e, is_at_is s.node (node_at net intent position) parts.0, parts.1)

-- what holds of the place where a packet starts to the next SID
pub record OriginFacts (net : Network) (intent : Intent) (position : ℕ) (place : Place) : Type 0 where
  pub within : position ≤ length intent.steps
  pub stands : node_at net intent position ≡ Some place.node
  pub rest : is_some (stand_after net place.node (drop position intent.steps)) ≡ true
  pub how : IsHow net place.node place.how
  pub family : place.family ≡ families.V6

pub intent_stands : (net : Network) (intent : Intent) → IsIntent net intent
    → (is_some (stand_after net intent.headend intent.steps) ≡ true) × (length intent.steps ≤ 48) × (1 ≤ length intent.steps)
    × (intent.headend < length net.nodes)
unfolding is_intent
intent_stands net intent h =
    let a = and_parts (nat_lt intent.headend (length net.nodes)) _ h in
    let b = and_parts (nat_le 1 intent.hop_limit) _ a.1 in
    let c = and_parts (nat_le 1 intent.max_containers) _ b.1 in
    let d = and_parts (nat_le intent.max_containers 127) _ c.1 in
    let e = and_parts (nat_lt intent.flow_label (2 ^ 20)) _ d.1 in
    let f = and_parts (nat_le 1 (length intent.steps)) _ e.1 in
    let g = and_parts (nat_le (length intent.steps) 48) _ f.1 in
    let k = and_parts (is_some (stand_after net intent.headend intent.steps)) _ g.1 in
    (k.0, leb-true (length intent.steps) 48 g.0, leb-true 1 (length intent.steps) f.0, ltb-true intent.headend (length net.nodes) a.0)

module _ (net : Network) (keeps : Keeps net) (intent : Intent) (is_intent : IsIntent net intent) where
  pub origin_from : (position : ℕ) (place : Place) → position ≤ length intent.steps → node_at net intent position ≡ Some place.node
      → IsHow net place.node place.how → place.family ≡ families.V6 → OriginFacts net intent position place
  origin_from position place within stands how family =
      record {
        within = within;
        stands = stands;
        rest = ap is_some (sym (stand_after_split net intent.headend place.node intent.steps position stands))
            ∙ (intent_stands net intent is_intent).0;
        how = how;
        family = family;
      }

  pub start_facts : (position : ℕ) (via : Option ℕ) (place : Place) → is_origin net intent position via ≡ true
      → place_from net intent via ≡ Some place
      → OriginFacts net intent position place
  start_facts position None place start from =
      let parts = and_parts (nat_le position (length intent.steps)) (position == 0) start in
      let e : position ≡ 0 = eqb-true position 0 parts.1 in
      subst (OriginFacts net intent position) (some_same _ place from)
      (origin_from position _ (leb-true position (length intent.steps) parts.0)
      (ap (λ (n : ℕ). stand_after net intent.headend (take n intent.steps)) e) tt refl)
  start_facts position (Some v) place start from =
      let parts = and_parts (nat_le position (length intent.steps)) (is_via net intent position (Some v)) start in
      let at = and_parts (is_sid_at net intent position v) (is_middle net v) parts.1 in
      let sid = sid_at net intent position v at.0 in
      let e : Path (Option Place) (Some (place_behind v sid.0)) (Some place)
      = ap (option_map (place_behind v)) (sym sid.1) ∙ from in
      subst (OriginFacts net intent position) (some_same _ place e)
      (origin_from position (place_behind v sid.0) (leb-true position (length intent.steps) parts.0) sid.2 (sid_how net v sid.0 keeps sid.1)
      refl)
