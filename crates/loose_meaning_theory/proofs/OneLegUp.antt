-- Up from a leg and from a finish: a packet whose hop limit is above the leg's hops is taken along it, under every row of choices.
use Rattle.std.proofs.Common.{◌≡◌, ℕ, suc, ◌+◌, ◌-◌, ◌<◌, ◌≤◌, false, List, [], ◌∷◌, ◌++◌, map, drop, length, Option, Some, None, slice_get, refl, sym, ◌∙◌, ap, subst, arith, append_assoc}
use Rattle.std.specs.Option.{option_map}
use Rattle.std.proofs.lemmas.List.Elements.{All-nil, All-cons}
use Rattle.srv6_rules.specs.declared.family.Family.TheVariants as families
use Rattle.srv6_rules.specs.declared.sid.SidEntry.{SidEntry}
use Rattle.srv6_rules.specs.Policies.{inner_kind}
use Rattle.srv6_rules.specs.Packet.{Packet, Content, V6, read_as}
use Rattle.net_model.specs.Network.{Network}
use Rattle.net_model.specs.NetworkKeeps.{Keeps}
use Rattle.walk_rules.specs.declared.place.Outcome.TheVariants as outcomes
use Rattle.walk_rules.specs.declared.place.Place.{Place}
use Rattle.walk_rules.specs.Treatment.{goes, onward_from, free_step_of as step_of}
use Rattle.walk_rules.specs.Walk.{free_walk_of as walk_of}
use Rattle.walk_rules.specs.Way.{Into, way_of}
use Rattle.walk_rules.proofs.PublicLaws.{way_into}
use Rattle.intent_reader.specs.declared.intent.Intent.{Intent}
use Rattle.sid_list_theory.specs.ListPlaces as lists
use Rattle.sid_list_theory.specs.ListPlaces.{Tunnel, Along, next_of}
use Rattle.sid_list_theory.proofs.PublicLaws.{along_hop}
use Rattle.list_pack.specs.declared.types.Leg.{Leg}
use Rattle.intent_traces.specs.declared.trace_steps.TraceStep.{TraceStep}
use Rattle.choice_graph.proofs.GraphOptions.{some_same}
use Rattle.loose_walks.specs.WayGraphsTerms.{IsLeft}
use Rattle.loose_walks.proofs.Reaching.{left_further}
use Rattle.leg_table.proofs.StrictExecutions.{step_parts}
use Rattle.leg_table.proofs.FlatNets.{FlatFacts}
use Rattle.leg_table.proofs.LegsUp.{last_unbound}
use Rattle.leg_table.proofs.NextTransits.{last_sid, middle_sid}
use Rattle.leg_table.proofs.Segments.{behind_again, last_exposes, mid_onward}
use Rattle.leg_table.specs.StrictLegs.{place_behind, place_from}
use Rattle.leg_table.specs.OneLegLaws.{HandsBy, IsTakenOn, LegKind, OnWay}
use Rattle.leg_table.specs.TransitsTerms.{with_hop_limit}
use Rattle.leg_table.specs.PositionSids.{hands_over, is_binding, sid_binds}
use Rattle.leg_table.specs.WalkTrace.{Crossed, TraceEvent, Executed, Handed, after_events}
use Rattle.loose_spec.specs.LooseLegs.{finish_of, leg_of}
use Rattle.loose_legs_theory.specs.LooseStepsTerms.{AreSteps}
use Rattle.loose_legs_theory.proofs.Always.{left_is_law}
use Rattle.loose_legs_theory.proofs.LooseSentenceWays.{finish_way, leg_way}
use Rattle.loose_meaning_theory.specs.LooseKind.{behind_execution, hand_of, kept_from, loose_kind, loose_mark}
use Rattle.loose_meaning_theory.proofs.LooseKindStages.{hand_behind, hand_stage}
use Rattle.loose_meaning_theory.proofs.OneLegKept.{after_on, execution_kept, links_kept, no_steps, on_left}
use Rattle.loose_meaning_theory.proofs.OneLegReached.{active_is, reached}

-- the node where a packet is executed is the SID's
pub node_is : (net : Network) (at : Place) (destination next : ℕ) (s : SidEntry) → way_of net at destination ≡ Into next
    → slice_get net.sids next ≡ Some s → s.node ≡ at.node
node_is net at destination next s into there =
    let stands = way_into net at destination next into in
    let same : stands.sid ≡ s = some_same stands.sid s (sym stands.is_there ∙ there) in
    ap (λ (t : SidEntry). t.node) (sym same) ∙ stands.stands

module _ (net : Network) (keeps : Keeps net) (facts : FlatFacts net) (intent : Intent) (steps : List TraceStep) (are : AreSteps net intent steps)
    (tunnel : Tunnel) where
  abbrev k : LegKind
  k = loose_kind net intent steps

  abbrev count : ℕ
  count = length steps

  -- what is handed over after the execution at a SID that is not the last
  behind : (at : Place) (next : ℕ) (s : SidEntry) (fuel : ℕ) (q r : Packet) (pick : ℕ → ℕ) (taken : ℕ) (h : Handed)
      → at.family ≡ families.V6 → slice_get net.sids next ≡ Some s → way_of net at q.destination ≡ Into next
      → step_of net at (V6 q) (pick taken) ≡ goes (outcomes.Again next (onward_from next s.behaviour)) (V6 r)
      → is_binding net next ≡ false
      → hand_of net (walk_of fuel net (place_from net intent (Some next)) (V6 r) pick (taken + 0)) ≡ Some h
      → hand_of net (walk_of (suc fuel) net (Some at) (V6 q) pick taken) ≡ Some (behind_execution next h)
  behind at next s fuel q r pick taken h v6 there into gives unbound handed =
      hand_behind net fuel at (place_behind next s) (V6 q) (V6 r) pick taken next (onward_from next s.behaviour) h gives
      (behind_again net at next s (node_is net at q.destination next s into there) v6) unbound
      (sym (ap (λ (o : Option SidEntry). hand_of net (walk_of fuel net (option_map (place_behind next) o) (V6 r) pick (taken + 0))) there)
      ∙ handed)

  -- up from a leg
  pub leg_up_law : (x y : lists.ListPlace) (position : ℕ) (via : Option ℕ) (next : ℕ) (leg : Leg) (hop : ℕ) (p : Packet) (pick : ℕ → ℕ)
      (taken : ℕ)
      → leg_of net intent steps position via next ≡ Some leg → OnWay k tunnel x hop p next → next_of x ≡ Some y → leg.hops < hop
      → IsTakenOn k tunnel y position via next leg hop p pick taken
  leg_up_law x y position via next leg hop p pick taken h on to high =
      let got = leg_way net keeps intent steps are position via next leg h in
      let w = got.1 in
      let s = middle_sid net next got.0 in
      let hops : w.found.most + 1 ≡ leg.hops = ap (λ (l : Leg). l.hops) got.2 in
      let ends : count - w.left ≡ leg.to = ap (λ (l : Leg). l.to) got.2 in
      let limit : p.hop_limit ≡ hop = along_hop tunnel x hop p on.along in
      let a = reached net keeps facts intent steps are tunnel position via next w x hop p s.0 pick taken s.1
      (active_is net keeps facts intent steps are tunnel x hop p next s.0 s.1 on) on.along on.keeps (omega (arith, hops, high, limit)) in
      let hops_left : p.hop_limit - 1 - w.found.most ≤ a.walked.hop - 1 = a.hops_left in
      let low : a.walked.hop ≤ p.hop_limit = a.walked.low in
      let enough : 1 < a.walked.hop = omega (arith, hops, high, limit, hops_left) in
      let q = with_hop_limit a.walked.hop p in
      let n = length a.walked.links in
      let stage = mid_onward net tunnel x a.walked.hop q a.along a.stop.stage.place next (pick (taken + n)) s.0 a.into s.1 a.on s.2 y to
      enough in
      let unbound : is_binding net next ≡ false = ap sid_binds s.1 ∙ (step_parts s.0 s.2).1 in
      let links = map Crossed a.walked.links in
      let rest = after_on net next a.stop.left w.left a.left in
      let last : IsLeft steps rest.0 = left_further steps a.stop.left rest.0 a.last (on_left net next a.stop.left rest.0 rest.1) in
      let to_is : count - length rest.0 ≡ leg.to = ap (λ (m : ℕ). count - m) rest.2 ∙ ends in
      let rest_is : rest.0 ≡ drop leg.to steps = sym (left_is_law steps rest.0 last) ∙ ap (λ (m : ℕ). drop m steps) to_is in
      let less : hop - (hop - (a.walked.hop - 1)) ≡ a.walked.hop - 1 = omega (arith, low, limit) in
      record {
        lowered = hop - (a.walked.hop - 1);
        few = omega (arith, hops, high, limit, hops_left);
        packet = stage.0;
        along = subst (λ (j : ℕ). Along tunnel y j stage.0) (sym less) stage.2;
        allowed = unbound;
        events = links ++ (Executed next ∷ []);
        leads = λ more.
            ap (kept_from net count (drop position steps)) (append_assoc links (Executed next ∷ []) more)
            ∙ links_kept net count a.walked.links (drop position steps) a.stop.left (Executed next ∷ more) a.walked.left
            ∙ execution_kept net count next a.stop.left rest.0 more rest.1
            ∙ ap (λ (m : ℕ). option_map (λ (marks : List ℕ). loose_mark next m ++ marks) (kept_from net count rest.0 more)) to_is
            ∙ ap (λ (us : List TraceStep). option_map (λ (marks : List ℕ). loose_mark next leg.to ++ marks) (kept_from net count us more))
            rest_is;
        count = n + 1;
        chosen = taken + n + 0;
        passes = λ fuel h is.
            let more : n + 1 + fuel ≡ n + suc fuel = omega arith in
            ap (λ (m : ℕ). hand_of net (walk_of m net (place_from net intent via) (V6 p) pick taken)) more
            ∙ ap (λ (o : Option Place). hand_of net (walk_of (n + suc fuel) net o (V6 p) pick taken)) w.from
            ∙ a.walked.walk pick taken (λ d few. refl) (suc fuel)
            ∙ ap (option_map (after_events links))
            (behind a.stop.stage.place next s.0 fuel q stage.0 pick (taken + n) h a.is_v6 s.1 a.into stage.1 unbound is)
            ∙ ap (λ (es : List TraceEvent). Some (record { trace = es; sids = next ∷ h.sids; content = h.content }))
            (sym (append_assoc links (Executed next ∷ []) h.trace));
      }

  -- up from a finish
  pub finish_up_law : (x : lists.ListPlace) (position : ℕ) (via : Option ℕ) (next lowered : ℕ) (hop : ℕ) (p : Packet) (pick : ℕ → ℕ) (taken : ℕ)
      → tunnel.inner ≡ intent.inner → finish_of net intent steps position via next ≡ Some lowered → OnWay k tunnel x hop p next
      → next_of x ≡ None → lowered < hop → HandsBy k tunnel position via p (next ∷ []) (loose_mark next count) pick taken
  finish_up_law x position via next lowered hop p pick taken family h on end high =
      let got = finish_way net keeps intent steps are position via next lowered h in
      let w = got.1 in
      let s = last_sid net intent.inner next got.0 in
      let most : w.found.most ≡ lowered = got.2 in
      let limit : p.hop_limit ≡ hop = along_hop tunnel x hop p on.along in
      let a = reached net keeps facts intent steps are tunnel position via next w x hop p s.0 pick taken s.1
      (active_is net keeps facts intent steps are tunnel x hop p next s.0 s.1 on) on.along on.keeps (omega (arith, most, high, limit)) in
      let q = with_hop_limit a.walked.hop p in
      let n = length a.walked.links in
      let shows = ap (λ f. hands_over f s.0) family ∙ s.2 in
      let stage = last_exposes net tunnel x a.walked.hop q a.along a.stop.stage.place next (pick (taken + n)) s.0 a.into s.1 a.on end
      shows in
      let links = map Crossed a.walked.links in
      let rest = after_on net next a.stop.left w.left a.left in
      let none : rest.0 ≡ [] = no_steps rest.0 (rest.2 ∙ got.3) in
      let to_is : count - length rest.0 ≡ count = let e = rest.2 ∙ got.3 in omega (arith, e) in
      let inside : Content = read_as tunnel.inner tunnel.bytes in
      record {
        handed = record { trace = links ++ (Executed next ∷ []); sids = next ∷ []; content = inside };
        over = (
          n + 1,
          ap (λ (o : Option Place). hand_of net (walk_of (n + 1) net o (V6 p) pick taken)) w.from
              ∙ a.walked.walk pick taken (λ d few. refl) 1
              ∙ ap (option_map (after_events links)) (hand_stage net 0 a.stop.stage.place (V6 q) pick (taken + n) _ stage),
        );
        meets =
            links_kept net count a.walked.links (drop position steps) a.stop.left (Executed next ∷ []) a.walked.left
            ∙ execution_kept net count next a.stop.left rest.0 [] rest.1
            ∙ ap (λ (us : List TraceStep). option_map (λ (marks : List ℕ). loose_mark next (count - length rest.0) ++ marks)
            (kept_from net count us [])) none
            ∙ ap (λ (m : ℕ). Some (loose_mark next m)) to_is;
        sids = refl;
        allowed = All-cons (λ (m : ℕ). is_binding net m ≡ false) next []
            (ap sid_binds s.1 ∙ last_unbound net s.0 (inner_kind intent.inner) (keeps.sid next s.0 s.1) s.2)
            (All-nil (λ (m : ℕ). is_binding net m ≡ false));
        content = refl;
      }
