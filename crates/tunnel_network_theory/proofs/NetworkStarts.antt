-- A header that walks alone comes to a place of the network, along steps that are done.
use Rattle.std.proofs.Common.{◌≡◌, ℕ, zero, suc, ◌-◌, ◌<◌, Bool, true, false, ◌==◌, ◌&&◌, nat_le, if◌then◌else◌, List, [], ◌∷◌, length, take, slice_get, Option, Some, None, refl, sym, ap, ◌∙◌, subst, arith}
use Rattle.std.specs.Prelude.{is_some}
use Rattle.std.specs.List.{list_all, AllByRecursion}
use Rattle.std.specs.Option.{option_and_then}
use Rattle.std.proofs.lemmas.Bool.{false≢true, and_parts}
use Rattle.std.proofs.lemmas.Option.{same_Some}
use Rattle.srv6_rules.specs.declared.sid.SidEntry.{SidEntry}
use Rattle.srv6_rules.specs.Behaviours.{behaviour_policy, behaviour_reduces}
use Rattle.srv6_rules.specs.Packet.{Packet}
use Rattle.srv6_rules.specs.Endpoint.{at_sid}
use Rattle.srv6_rules.specs.Srh.{Srh}
use Rattle.srv6_rules.specs.Policies.{outer_by}
use Rattle.srv6_rules.specs.declared.policy.Policy.{Policy}
use Rattle.srv6_rules.specs.declared.family.Family.TheVariants as families
use Rattle.outer_header_theory.specs.HeaderFronts.{AreFront, Fate, GoesOn, IsTakenOff, IsDelivered, IsDropped, IsFate, endpoint_of, filled, front_by}
use Rattle.outer_header_theory.proofs.PushedHeaderLaws.{one_fate, policy_front, policy_round}
use Rattle.net_model.specs.declared.parts.Link.{Link}
use Rattle.net_model.specs.declared.parts.NamedPolicy.{NamedPolicy}
use Rattle.net_model.specs.Network.{Network}
use Rattle.net_model.specs.NetworkKeeps.{Keeps, EndsElsewhere}
use Rattle.walk_rules.specs.declared.place.How.TheVariants.{Arrived}
use Rattle.walk_rules.specs.declared.place.Place.{Place}
use Rattle.walk_rules.specs.Relation.{IsHow, IsPlace}
use Rattle.walk_rules.specs.Treatment.{allow_of, lowered, onward_from, exposed_from}
use Rattle.walk_rules.specs.Walk.{arrival}
use Rattle.walk_rules.specs.Way.{Way, NoWay, Over, Own, Into, way_of}
use Rattle.walk_rules.specs.WayTerms.{IsWayFrom}
use Rattle.walk_rules.proofs.PublicLaws.{way_from, sid_how, exposed_how}
use Rattle.intent_reader.specs.IntentRules.{end_of_link, node_after, function_node, stand_after}
use Rattle.intent_reader.specs.declared.intent.Step.{Step}
use Rattle.intent_reader.specs.declared.intent.Step.TheVariants.{Links, Function, Reach}
use Rattle.leg_table.specs.WalkTrace.{Executed, executed, is_titled}
use Rattle.leg_table.specs.StepMatching.{has_link}
use Rattle.leg_table.proofs.StrictLinks.{far_end_is, link_ends, step_opens}
use Rattle.binding_spec.specs.Machines.{End, Fork, Go, all_in, left_by, end_after, end_with, end_by, end_of}
use Rattle.binding_spec.specs.TunnelPackets.{Inside, Loses, inside_off, inside_at, inside_by, inside_move, tunnel_of, arrives}
use Rattle.tunnel_walks_theory.proofs.PublicLaws.{then_parts, map_parts, if_parts, arrives_parts}
use Rattle.binding_spec.specs.NetworkWorld.{at_how, leads, look_links, look_bound, look_onward, look_at_sid, look_in, look_by, step_events, world}
use Rattle.tunnel_network_theory.specs.HeaderOrigins.{IsHead, OriginsBehind}

ends_there : (from node_count : ℕ) (to : Option ℕ) (node : ℕ) → to ≡ Some node → EndsElsewhere node_count from to → node < node_count
ends_there from node_count None node e ends = cc
ends_there from node_count (Some n) node e ends =
    let same : n ≡ node = same_Some _ _ e in
    omega (arith, ends.0, same)

far_there : (net : Network) (link to : ℕ) → Keeps net → end_of_link (slice_get net.links link) ≡ Some to → to < length net.nodes
far_there net link to keeps h = by_link (slice_get net.links link) refl h
  where
    by_link : (o : Option Link) → slice_get net.links link ≡ o → end_of_link o ≡ Some to → to < length net.nodes
    by_link None there h = cc
    by_link (Some l) there h = ends_there l.from (length net.nodes) l.to to h (keeps.link link l there).to

-- ---- headers

lowered_filled : (p : Packet) (o : Option Srh) → lowered true (filled p o []) ≡ filled (lowered true p) o []
lowered_filled p None = refl
lowered_filled p (Some s) = refl

lowered_head : (lower : Bool) (head : Packet) → IsHead head → IsHead (lowered lower head)
lowered_head true head h =
    record {
      fields = lowered true h.fields;
      routing = h.routing;
      is = ap (lowered true) h.is ∙ lowered_filled h.fields h.routing;
      front = h.front;
    }
lowered_head false head h = h

filled_head : (p : Packet) (o : Option Srh) → AreFront o → IsHead (filled p o [])
filled_head p o front = record { fields = p; routing = o; is = refl; front = front }

pub policy_head : (policy : Policy) (reduced : Bool) → IsHead (outer_by policy reduced families.V6 [])
policy_head policy reduced =
    record {
      fields = outer_by policy reduced families.V6 [];
      routing = front_by policy reduced;
      is = policy_round policy reduced [];
      front = policy_front policy reduced;
    }

module _ (net : Network) where
  -- ---- steps that are done

  none_done : (ts : List Step) (e : End Step ℕ Place) (place : Place) → end_with [] place ts ≡ e → IsPlace net place
      → place.family ≡ families.V6 → is_some (stand_after net place.node ts) ≡ true → OriginsBehind net ts place.node e
  none_done ts e place same is v6 stands =
      subst (OriginsBehind net ts place.node) same
      (record { done = 0; few = omega arith; left = refl; lands = refl; place = is; family = v6; stands = stands })

  one_done : (t : Step) (ts : List Step) (node to : ℕ) (e : End Step ℕ Place) → node_after net node t ≡ Some to → OriginsBehind net ts to e
      → OriginsBehind net (t ∷ ts) node e
  one_done t ts node to e goes s =
      record {
        done = suc s.done;
        few = omega (arith, s.few);
        left = s.left;
        lands = ap (option_and_then (λ next. stand_after net next (take s.done ts))) goes ∙ s.lands;
        place = s.place;
        family = s.family;
        stands = s.stands;
      }

  -- a function is done where it stands
  record FunctionDone (sid node : ℕ) (ts : List Step) : Type 0 where
    goes : node_after net node (Function sid) ≡ Some node
    stands : is_some (stand_after net node ts) ≡ true

  function_done : (sid node : ℕ) (ts : List Step) → is_some (stand_after net node (Function sid ∷ ts)) ≡ true → FunctionDone sid node ts
  function_done sid node ts h =
      let parts = by_sid (slice_get net.sids sid) h in
      record { goes = parts.0; stands = parts.1 }
    where
      by_sid : (o : Option SidEntry) → is_some (option_and_then (λ next. stand_after net next ts) (function_node node o)) ≡ true
          → (function_node node o ≡ Some node) × (is_some (stand_after net node ts) ≡ true)
      by_sid None h = absurd (false≢true h)
      by_sid (Some s) h = by_test ((s.node == node) && is_some s.title) h
        where
          by_test : (b : Bool) → is_some (option_and_then (λ next. stand_after net next ts) (if b then Some node else None)) ≡ true
              → ((if b then Some node else None) ≡ Some node) × (is_some (stand_after net node ts) ≡ true)
          by_test true h = (refl, h)
          by_test false h = absurd (false≢true h)

  -- what follows an execution follows the steps before it
  record ExecutedOn (node : ℕ) (ts us : List Step) : Type 0 where
    stands : is_some (stand_after net node us) ≡ true
    back : (e : End Step ℕ Place) → OriginsBehind net us node e → OriginsBehind net ts node e

  titled_on : (sid node : ℕ) (ts us : List Step) → left_by step_events ts (Executed sid ∷ []) ≡ Some us
      → is_some (stand_after net node ts) ≡ true → ExecutedOn node ts us
  titled_on sid node [] us h stands = cc
  titled_on sid node (Links set ∷ ts) us h stands = cc
  titled_on sid node (Reach reached ∷ ts) us h stands = cc
  titled_on sid node (Function n ∷ ts) us h stands =
      let a = then_parts (λ vs. left_by step_events vs []) (if n == sid then Some ts else None) us h in
      let same : ts ≡ us = same_Some _ _ (if_parts (n == sid) (Some ts) a.0 a.1).1 ∙ same_Some _ _ a.2 in
      let done = function_done n node ts stands in
      record {
        stands = subst (λ vs. is_some (stand_after net node vs) ≡ true) same done.stands;
        back = λ e s. one_done (Function n) ts node node e done.goes (subst (λ vs. OriginsBehind net vs node e) (sym same) s);
      }

  executed_on : (sid node : ℕ) (ts us : List Step) → left_by step_events ts (executed net sid) ≡ Some us
      → is_some (stand_after net node ts) ≡ true → ExecutedOn node ts us
  executed_on sid node ts us h stands = by_title (is_titled net sid) h
    where
      by_title : (b : Bool) → left_by step_events ts (if b then Executed sid ∷ [] else []) ≡ Some us → ExecutedOn node ts us
      by_title true h = titled_on sid node ts us h stands
      by_title false h =
          let same : ts ≡ us = same_Some _ _ h in
          record {
            stands = subst (λ vs. is_some (stand_after net node vs) ≡ true) same stands;
            back = λ e s. subst (λ vs. OriginsBehind net vs node e) (sym same) s;
          }

  -- ---- one move

  module _ (keeps : Keeps net) (limit : ℕ) where
    abbrev inside_end : ℕ → List Step → Inside Place Packet → Option (End Step ℕ Place)
    inside_end = end_of step_events (inside_move (world net limit))

    abbrev Origins : ℕ → Type 0
    Origins k =
        (ts : List Step) (place : Place) (head : Packet) (above : List Packet) (e : End Step ℕ Place) → IsHead head
        → AllByRecursion IsHead above → IsPlace net place → is_some (stand_after net place.node ts) ≡ true
        → inside_end k ts (inside_at head above place) ≡ Some e
        → OriginsBehind net ts place.node e

    go_origin : (k : ℕ) → Origins k → (sid : ℕ) (place : Place) (head : Packet) (above : List Packet) (ts : List Step) (e : End Step ℕ Place)
        → IsHead head → AllByRecursion IsHead above → IsPlace net place → is_some (stand_after net place.node ts) ≡ true
        → end_by step_events (inside_end k) (Go (executed net sid) [] (inside_at head above place)) ts ≡ Some e
        → OriginsBehind net ts place.node e
    go_origin k ih sid place head above ts e is_head all is stands h =
        let next = inside_at head above place in
        let a = map_parts (end_after []) (option_and_then (λ us. inside_end k us next) (left_by step_events ts (executed net sid))) e h in
        let b = then_parts (λ us. inside_end k us next) (left_by step_events ts (executed net sid)) a.0 a.1 in
        let on = executed_on sid place.node ts b.0 b.1 stands in
        on.back e (ih b.0 place head above e is_head all is on.stands (b.2 ∙ ap Some a.2))

    off_origin : (k : ℕ) → Origins k → (sid : ℕ) (place : Place) (above : List Packet) (ts : List Step) (e : End Step ℕ Place)
        → AllByRecursion IsHead above → IsPlace net place → place.family ≡ families.V6 → is_some (stand_after net place.node ts) ≡ true
        → end_by step_events (inside_end k) (inside_off ℕ (executed net sid) place above) ts ≡ Some e → OriginsBehind net ts place.node e
    off_origin k ih sid place [] ts e all is v6 stands h =
        let a = map_parts (end_with [] place) (left_by step_events ts (executed net sid)) e h in
        let on = executed_on sid place.node ts a.0 a.1 stands in
        on.back e (none_done a.0 e place a.2 is v6 on.stands)
    off_origin k ih sid place (q ∷ above) ts e all is v6 stands h = go_origin k ih sid place q above ts e all.0 all.1 is stands h

    sid_origin : (k : ℕ) → Origins k → (place : Place) (above : List Packet) (n : ℕ) (s : SidEntry) (ts : List Step) (e : End Step ℕ Place)
        → AllByRecursion IsHead above → IsPlace net place → is_some (stand_after net place.node ts) ≡ true → slice_get net.sids n ≡ Some s
        → s.node ≡ place.node → (x : Fate) → IsFate x
        → end_by step_events (inside_end k) (inside_by (world net limit) above (look_at_sid net place n s.behaviour (endpoint_of x []))) ts
        ≡ Some e
        → OriginsBehind net ts place.node e
    sid_origin k ih place above n s ts e all is stands there here (GoesOn p o) front h = by_policy (behaviour_policy s.behaviour) h
      where
        goes : IsPlace net (at_how place (onward_from n s.behaviour))
        goes = (is.0, subst (λ node. IsHow net node (onward_from n s.behaviour)) here (sid_how net n s keeps there))

        by_bound : (bound : Option NamedPolicy)
            → end_by step_events (inside_end k)
            (inside_by (world net limit) above (look_bound net place n s.behaviour (filled p o []) bound)) ts ≡ Some e
            → OriginsBehind net ts place.node e
        by_bound None h = cc
        by_bound (Some named) h =
            go_origin k ih n (at_how place (onward_from n s.behaviour))
            (outer_by named.policy (behaviour_reduces s.behaviour) families.V6 [])
            (filled p o [] ∷ above) ts e (policy_head named.policy (behaviour_reduces s.behaviour))
            (filled_head p o front, all) goes stands h

        by_policy : (policy : Option ℕ)
            → end_by step_events (inside_end k)
            (inside_by (world net limit) above (look_onward net place n s.behaviour (filled p o []) policy)) ts ≡ Some e
            → OriginsBehind net ts place.node e
        by_policy None h =
            go_origin k ih n (at_how place (onward_from n s.behaviour)) (filled p o []) above ts e (filled_head p o front) all goes stands h
        by_policy (Some number) h = by_bound (slice_get net.policies number) h
    sid_origin k ih place above n s ts e all is stands there here IsTakenOff front h =
        let next : Place = record { node = place.node; how = exposed_from n s.behaviour; family = families.V6 } in
        off_origin k ih n next above ts e all
        (is.0, subst (λ node. IsHow net node (exposed_from n s.behaviour)) here (exposed_how net n s keeps there)) refl stands h
    sid_origin k ih place above n s ts e all is stands there here (IsDelivered p o) front h = cc
    sid_origin k ih place above n s ts e all is stands there here (IsDropped reason at) front h = cc

    over_origin : (k : ℕ) → Origins k → (place : Place) (above : List Packet) (first : ℕ) (rest : List ℕ) (p : Packet) (ts : List Step)
        → (e : End Step ℕ Place) → IsHead p → AllByRecursion IsHead above → IsPlace net place
        → is_some (stand_after net place.node ts) ≡ true
        → end_by step_events (inside_end k) (Fork first rest (arrives (leads net place) (inside_at p above))) ts ≡ Some e
        → OriginsBehind net ts place.node e
    over_origin k ih place above first rest p [] e is_head all is stands h = cc
    over_origin k ih place above first rest p (Function sid ∷ ts) e is_head all is stands h = cc
    over_origin k ih place above first rest p (Reach reached ∷ ts) e is_head all is stands h = cc
    over_origin k ih place above first rest p (Links set ∷ ts) e is_head all is stands h =
        let a = if_parts (all_in step_events (Links set) (first ∷ rest))
        (option_and_then (inside_end k ts) (arrives (leads net place) (inside_at p above) first)) e h in
        let b = arrives_parts (inside_end k ts) (leads net place) (inside_at p above) first e a.1 in
        let opened = step_opens net place.node set ts stands in
        let mine : has_link set first ≡ true = (and_parts (has_link set first) (list_all (has_link set) rest) a.0).0 in
        let ends = link_ends net opened.0 set first opened.1 mine in
        let next : Place = record { node = opened.0; how = Arrived 0; family = place.family } in
        let same : b.0 ≡ next =
        same_Some _ _ (sym b.1 ∙ ap (λ o. arrival o place) (far_end_is (slice_get net.links first) ∙ ends)) in
        let on : inside_end k ts (inside_at p above next) ≡ Some e =
        subst (λ q. inside_end k ts (inside_at p above q) ≡ Some e) same b.2 in
        one_done (Links set) ts place.node opened.0 e opened.3
        (ih ts next p above e is_head all (far_there net first opened.0 keeps ends, tt) opened.2 on)

    way_origin : (k : ℕ) → Origins k → (place : Place) (head : Packet) (above : List Packet) (ts : List Step) (e : End Step ℕ Place)
        → IsHead head → AllByRecursion IsHead above → IsPlace net place → is_some (stand_after net place.node ts) ≡ true → (way : Way)
        → IsWayFrom net place.node way
        → end_by step_events (inside_end k) (inside_by (world net limit) above (look_by net place way head)) ts ≡ Some e
        → OriginsBehind net ts place.node e
    way_origin k ih place head above ts e is_head all is stands (NoWay reason) from h = cc
    way_origin k ih place head above ts e is_head all is stands Own from h = cc
    way_origin k ih place head above ts e is_head all is stands (Into n) from h =
        let allow = allow_of (slice_get net.nodes place.node) in
        let fate = one_fate from.sid allow is_head.fields is_head.routing is_head.front in
        let same : at_sid from.sid allow head ≡ endpoint_of fate.0 [] = ap (at_sid from.sid allow) is_head.is ∙ fate.2 [] in
        sid_origin k ih place above n from.sid ts e all is stands from.is_there from.stands fate.0 fate.1
        (subst (λ x. end_by step_events (inside_end k)
        (inside_by (world net limit) above (look_at_sid net place n from.sid.behaviour x)) ts ≡ Some e) same
        (subst (λ o. end_by step_events (inside_end k) (inside_by (world net limit) above (look_in net place n o head)) ts ≡ Some e)
        from.is_there h))
    way_origin k ih place head above ts e is_head all is stands (Over set lower) from h =
        by_low (lower && nat_le head.hop_limit 1) set from.some h
      where
        by_low : (c : Bool) (set : List ℕ) → 0 < length set
            → end_by step_events (inside_end k)
            (inside_by (world net limit) above (if c then Loses else look_links net place set (lowered lower head))) ts ≡ Some e
            → OriginsBehind net ts place.node e
        by_low true set some h = cc
        by_low false [] some h = absurd (omega arith)
        by_low false (first ∷ rest) some h =
            over_origin k ih place above first rest (lowered lower head) ts e (lowered_head lower head is_head) all is stands h

    origins : (k : ℕ) → Origins k
    unfolding end_of
    origins zero ts place head above e is_head all is stands h = cc
    origins (suc k) ts place head above e is_head all is stands h =
        way_origin k (origins k) place head above ts e is_head all is stands (way_of net place head.destination)
        (way_from net place head.destination keeps is.1) h

    pub tunnel_origins : (ts : List Step) (place : Place) (new : Packet) (e : End Step ℕ Place) → IsHead new → IsPlace net place
        → is_some (stand_after net place.node ts) ≡ true → tunnel_of (world net limit) ts place new ≡ Some e
        → OriginsBehind net ts place.node e
    unfolding tunnel_of
    tunnel_origins ts place new e is_head is stands h = origins (limit - 1) ts place new [] e is_head tt is stands h
