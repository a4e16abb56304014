-- Where the packet goes on from the SID that is executed first, there is a leg, and behind it the packet of a longest way is handed over
-- under every row of choices.
use Rattle.std.proofs.Common.{◌≡◌, ◌⊎◌, inl, inr, ℕ, ◌+◌, ◌-◌, ◌<◌, ◌≤◌, Bool, true, false, nat_lt, if◌then◌else◌, List, [], ◌∷◌, ◌++◌, map, drop, length, All, Option, Some, slice_get, refl, sym, ◌∙◌, ap, subst, arith}
use Rattle.std.specs.Option.{option_map}
use Rattle.std.proofs.lemmas.Bool.{and_from, cases_lt, eq-eqb, le-ltb, lt-ltb}
use Rattle.std.proofs.lemmas.List.Elements.{All-tail}
use Rattle.v6_addr.specs.Address.{PrefixValue}
use Rattle.srv6_rules.specs.declared.sid.SidEntry.{SidEntry}
use Rattle.srv6_rules.specs.Endpoint.{Onward, at_sid}
use Rattle.srv6_rules.specs.Packet.{Packet, V6}
use Rattle.net_model.specs.Network.{Network}
use Rattle.walk_rules.specs.declared.place.Outcome.TheVariants as outcomes
use Rattle.walk_rules.specs.declared.place.Place.{Place}
use Rattle.walk_rules.specs.Treatment.{Gave, allow_of, goes, onward_from, free_step_of as step_of}
use Rattle.walk_rules.specs.Walk.{free_walk_of as walk_of, next_place}
use Rattle.intent_reader.specs.declared.intent.Intent.{Intent}
use Rattle.sid_list_theory.specs.ListPlaces as lists
use Rattle.sid_list_theory.specs.ListPlaces.{Tunnel, Along, active, form, next_of, stays_routed}
use Rattle.sid_list_theory.proofs.PublicLaws.{along_next, along_onward, along_tired}
use Rattle.list_pack.specs.SidLists.{list_sid}
use Rattle.intent_traces.specs.declared.trace_steps.TraceStep.{TraceStep}
use Rattle.choice_graph.proofs.GraphOptions.{map_some}
use Rattle.loose_walks.specs.WayGraphs.{found_in}
use Rattle.leg_table.proofs.StrictExecutions.{step_parts, taken_onward}
use Rattle.leg_table.proofs.StrictHanding.{walk_same}
use Rattle.leg_table.proofs.PathNames.{shape_prefix}
use Rattle.leg_table.proofs.Segments.{behind_again}
use Rattle.leg_table.specs.StrictLegs.{leg_with, place_behind, place_from}
use Rattle.leg_table.specs.StrictLegsTerms.{has_next_segment, is_again, is_onward, takes_on}
use Rattle.leg_table.specs.OneLegLaws.{AlwaysHands, BecomesOf, HandsOver, LegKind, Moved}
use Rattle.leg_table.specs.TransitsTerms.{with_hop_limit}
use Rattle.leg_table.specs.PositionSids.{is_binding, is_middle, sid_goes_on, prefix_by, takes_step}
use Rattle.leg_table.specs.WalkTrace.{Crossed, TraceEvent, Executed, Handed}
use Rattle.loose_legs_theory.proofs.Always.{left_is_law}
use Rattle.loose_legs_theory.proofs.LooseSentenceMeaning.{leg_one}
use Rattle.loose_legs_theory.proofs.LooseSentenceWays.{Way, leg_from, start_at_law}
use Rattle.loose_meaning_theory.specs.LooseKind.{behind_execution, hand_of, kept_from, loose_kind}
use Rattle.loose_meaning_theory.specs.LongestWays.{Longest}
use Rattle.loose_meaning_theory.proofs.LooseKindStages.{Hands, again_over, none_dropped}
use Rattle.loose_meaning_theory.proofs.First.{At, HandsAt, IsFirst, Setting, along_at}
use Rattle.loose_meaning_theory.proofs.OneLegKept.{execution_kept, links_kept}
use Rattle.loose_meaning_theory.proofs.Executing.{stop_over}
use Rattle.loose_meaning_theory.proofs.OneLegReached.{found_there}
use Rattle.loose_meaning_theory.proofs.Tight.{AreTight}
use Rattle.loose_meaning_theory.proofs.OneLegEnds.{alike, always_executes, gives, limit, positive, sids_there, started}

-- the choices of one row, so many of them, and then those of another
abbrev joined : ℕ → (ℕ → ℕ) → (ℕ → ℕ) → ℕ → ℕ
joined count pick other d = if nat_lt d count then pick d else other (d - count)

joined_first : (count : ℕ) (pick other : ℕ → ℕ) (d : ℕ) → d < count → joined count pick other (0 + d) ≡ pick (0 + d)
joined_first count pick other d few =
    ap (λ (b : Bool). if b then pick (0 + d) else other (0 + d - count)) (lt-ltb (0 + d) count (omega (arith, few)))

joined_later : (count : ℕ) (pick other : ℕ → ℕ) (d : ℕ) → joined count pick other (0 + count + 0 + d) ≡ other (0 + d)
joined_later count pick other d =
    ap (λ (b : Bool). if b then pick (0 + count + 0 + d) else other (0 + count + 0 + d - count))
    (le-ltb (0 + count + 0 + d) count (omega arith))
    ∙ ap other (omega arith)

two_heads : (a b c d : ℕ) (xs ys : List ℕ) → Path (List ℕ) (a ∷ b ∷ xs) (c ∷ d ∷ ys) → xs ≡ ys
two_heads a b c d xs ys e = cc

module _ (net : Network) (intent : Intent) (steps : List TraceStep) (tunnel : Tunnel) (c : Setting net intent steps tunnel)
    (tight : AreTight net intent steps) where
  abbrev k : LegKind
  k = loose_kind net intent steps

  abbrev count : ℕ
  count = length steps

  module _ (position : ℕ) (via : Option ℕ) (x : lists.ListPlace) (q : PrefixValue) (hop : ℕ) (p : Packet)
      (o : HandsAt net intent steps tunnel c position via x q hop p)
      (f : IsFirst net intent steps tunnel c position via x q hop p o) where
    abbrev Become : Type 0
    Become = BecomesOf k (Longest net intent) tunnel x q position via hop p

    abbrev ts : List TraceStep
    ts = drop position steps

    -- where a row executes the SID
    abbrev There : (ℕ → ℕ) → ℕ → Handed → Type 0
    There = At net intent steps tunnel c position via x q hop p o f.sid f.entry f.left f.later

    abbrev at_limit : (limit : ℕ) → Along tunnel x limit (with_hop_limit limit p)
    at_limit = along_at net intent steps tunnel c position via x q hop p o

    abbrev allow : {pick : ℕ → ℕ} {taken : ℕ} {h : Handed} → There pick taken h → List ℕ
    allow a = allow_of (slice_get net.nodes a.met.stop.stage.place.node)

    abbrev packet : {pick : ℕ → ℕ} {taken : ℕ} {h : Handed} → There pick taken h → Packet
    packet a = with_hop_limit a.met.walked.hop p

    -- ---- the packet goes on

    module _ (y : lists.ListPlace) (takes : takes_step f.entry ≡ true) (to : next_of x ≡ Some y) where
      -- what goes on, of a hop limit
      abbrev onward : ℕ → Packet
      onward hop = form tunnel y (stays_routed f.entry.psp x y o.along.routed) (hop - 1)

      abbrev going : ℕ → Gave
      going hop = goes (outcomes.Again f.sid (onward_from f.sid f.entry.behaviour)) (V6 (onward hop))

      goes_at : (other : ℕ → ℕ) (uaken : ℕ) (g : Handed) (b : There other uaken g)
          → (1 < b.met.walked.hop)
          × ((choice : ℕ) → step_of net b.met.stop.stage.place (V6 (packet b)) choice ≡ going b.met.walked.hop)
      goes_at other uaken g b = by_limit (cases_lt 1 b.met.walked.hop)
        where
          by_limit : (1 < b.met.walked.hop) ⊎ (b.met.walked.hop ≤ 1)
              → (1 < b.met.walked.hop)
              × ((choice : ℕ) → step_of net b.met.stop.stage.place (V6 (packet b)) choice ≡ going b.met.walked.hop)
          by_limit (inl high) = (
            high,
            λ choice.
                gives net intent steps tunnel c position via x q hop p o f other uaken g b (Onward (onward b.met.walked.hop))
                (along_onward f.entry (allow b) tunnel x y b.met.walked.hop (packet b) (at_limit b.met.walked.hop) f.on
                (step_parts f.entry takes).0 to high) choice
                ∙ taken_onward net b.met.stop.stage.place.node f.sid f.entry (packet b) (onward b.met.walked.hop) takes,
          )
          by_limit (inr low) =
              absurd (none_dropped net b.met.stop.stage.place (V6 (packet b)) other (uaken + length b.met.walked.links) b.met.behind _
              (gives net intent steps tunnel c position via x q hop p o f other uaken g b _
              (along_tired f.entry (allow b) tunnel x y b.met.walked.hop (packet b) (at_limit b.met.walked.hop) f.on
              (step_parts f.entry takes).0 to low) (other (uaken + length b.met.walked.links)))
              (λ later. refl) b.met.over)

      behind_there : (other : ℕ → ℕ) (uaken : ℕ) (g : Handed) (b : There other uaken g)
          → next_place net b.met.stop.stage.place (outcomes.Again f.sid (onward_from f.sid f.entry.behaviour))
          ≡ Some (place_behind f.sid f.entry)
      behind_there other uaken g b = behind_again net b.met.stop.stage.place f.sid f.entry b.stands b.is_v6

      -- and what is handed over behind the SID
      goes_over : (other : ℕ → ℕ) (uaken : ℕ) (g : Handed) (b : There other uaken g)
          → (l : Handed)
          × Hands net (place_behind f.sid f.entry) (V6 (onward b.met.walked.hop)) other (uaken + length b.met.walked.links + 0) l
          × (behind_execution f.sid l ≡ b.met.behind)
      goes_over other uaken g b =
          again_over net b.met.stop.stage.place (place_behind f.sid f.entry) (V6 (packet b)) (V6 (onward b.met.walked.hop)) other
          (uaken + length b.met.walked.links) b.met.behind f.sid (onward_from f.sid f.entry.behaviour)
          ((goes_at other uaken g b).1 (other (uaken + length b.met.walked.links))) (behind_there other uaken g b) b.met.over

      from_sid : place_from net intent (Some f.sid) ≡ Some (place_behind f.sid f.entry)
      from_sid = ap (option_map (place_behind f.sid)) f.there

      middle : is_middle net f.sid ≡ true
      middle = ap sid_goes_on f.there ∙ takes

      -- the leg
      way : (w : Way net c.keeps intent steps c.are position via f.sid) × (w.place ≡ o.place) × (w.left ≡ f.left)
          × (w.found.most + 1 < p.hop_limit)
      way =
          let has : has_next_segment net f.sid p ≡ true
          = ap (λ (l : Option SidEntry). takes_on l p) f.there
          ∙ and_from (takes_step f.entry) (is_onward (at_sid f.entry [] (with_hop_limit 2 p))) takes
          (ap is_onward (along_onward f.entry [] tunnel x y 2 (with_hop_limit 2 p) (at_limit 2) f.on (step_parts f.entry takes).0 to
          (omega arith))) in
          leg_one net c.keeps intent steps c.are position via f.sid p.destination
          (alike net intent steps tunnel c position via x q hop p o f) o.place f.left p o.start middle o.from refl has
          (positive net intent steps tunnel c position via x q hop p o f)
          (always_executes net intent steps tunnel c position via x q hop p o f is_again
          (λ other uaken g b. ap (λ (l : Gave). is_again f.sid l.outcome)
          ((goes_at other uaken g b).1 (other (uaken + length b.met.walked.links))) ∙ eq-eqb f.sid f.sid refl))

      -- on a longest way the packet comes to the SID with as little as may be left of its hop limit
      least : (w : Way net c.keeps intent steps c.are position via f.sid) → w.place ≡ o.place
          → w.found.most + 1 < p.hop_limit → (other : ℕ → ℕ) (uaken : ℕ) (g : Handed) (b : There other uaken g)
          → Longest net intent via p other uaken → b.met.walked.hop ≡ p.hop_limit - w.found.most
      least w same low other uaken g b long =
          let within = (start_at_law net c.keeps intent steps c.are position via o.place o.start o.from).within in
          let prefix : active x ≡ list_sid net f.entry.prefix = sym_prefix in
          let found : found_in net p.destination steps (count - position) o.place ≡ Some w.found
          = ap (λ (at : Place). found_in net p.destination steps (count - position) at) (sym same)
          ∙ found_there net c.keeps c.facts intent steps c.are tunnel position via f.sid w x hop p f.entry f.there prefix o.along o.nests in
          tight.most position via o.place w.found p other uaken f.sid b.met.stop within o.from found low b.met.walked b.into long
        where
          sym_prefix : active x ≡ list_sid net f.entry.prefix
          sym_prefix = o.to ∙ ap (list_sid net) (sym f.prefix ∙ ap prefix_by f.there)

      -- behind it the packet is handed over under every row, along the steps that are left: the rows that begin as the one that came there
      hands_behind : (pick : ℕ → ℕ) (h : Handed) (a : There pick 0 h) (done : ℕ) → a.rest ≡ drop done steps
          → AlwaysHands k (Some f.sid) (onward a.met.walked.hop) done
      hands_behind pick h a done rest_is = (f.later, λ other. each other)
        where
          n : ℕ
          n = length a.met.walked.links

          r : Packet
          r = onward a.met.walked.hop

          links : List TraceEvent
          links = map Crossed a.met.walked.links

          each : (other : ℕ → ℕ)
              → (l : Handed) × HandsOver k (Some f.sid) r other 0 l × (k.kept done l.trace ≡ Some f.later)
              × All (λ m. k.barred m ≡ false) l.sids
          each other =
              let picks = joined n pick other in
              let own = o.all picks 0 in
              let at = stop_over net ts o.place p pick 0 a.met.stop a.met.walked picks 0 (λ d few. joined_first n pick other d few) own.0
              own.1 in
              let go = again_over net a.met.stop.stage.place (place_behind f.sid f.entry) (V6 (packet a)) (V6 r) picks (0 + n) at.0 f.sid
              (onward_from f.sid f.entry.behaviour) ((goes_at pick 0 h a).1 (picks (0 + n))) (behind_there pick 0 h a) at.1 in
              let trace : kept_from net count ts (links ++ (Executed f.sid ∷ go.0.trace)) ≡ Some o.marks
              = ap (λ (g : Handed). kept_from net count ts (links ++ g.trace)) go.2
              ∙ ap (λ (g : Handed). kept_from net count ts g.trace) at.2 ∙ own.2 in
              let kept = sym (execution_kept net count f.sid a.met.stop.left a.rest go.0.trace a.on_is)
              ∙ sym (links_kept net count a.met.walked.links ts a.met.stop.left (Executed f.sid ∷ go.0.trace) a.met.walked.left) ∙ trace in
              let m = map_some (λ (ms : List ℕ). (f.sid ∷ (count - length a.rest) ∷ []) ++ ms) (kept_from net count a.rest go.0.trace)
              o.marks kept in
              let later : m.0 ≡ f.later
              = two_heads f.sid (count - length a.rest) f.sid f.finished m.0 f.later (m.2 ∙ f.marks_is) in
              let sids : own.0.sids ≡ f.sid ∷ go.0.sids
              = sym (ap (λ (g : Handed). g.sids) at.2) ∙ sym (ap (λ (g : Handed). g.sids) go.2) in (
                go.0,
                (
                  go.1.0,
                  ap (λ (l : Option Place). hand_of net (walk_of go.1.0 net l (V6 r) other 0)) from_sid
                      ∙ ap (hand_of net) (sym (walk_same net go.1.0 (Some (place_behind f.sid f.entry)) (V6 r) picks other (0 + n + 0) 0
                      (λ d. joined_later n pick other d)))
                      ∙ go.1.1,
                ),
                ap (λ (us : List TraceStep). kept_from net count us go.0.trace) (sym rest_is) ∙ m.1 ∙ ap (λ (ms : List ℕ). Some ms) later,
                All-tail (λ (m : ℕ). is_binding net m ≡ false) f.sid go.0.sids
                    (subst (λ (ms : List ℕ). All (λ m. is_binding net m ≡ false) ms) sids own.3),
              )

      pub moved : Become
      moved =
          let w = way in
          let long = tight.some via p in
          let own = o.all long.0 0 in
          let a = f.each long.0 0 own.0 own.1 in
          let top = a.met.walked.hop in
          let top_is : top ≡ p.hop_limit - w.0.found.most = least w.0 w.1 w.3 long.0 0 own.0 a long.1 in
          let low : w.0.found.most + 1 < p.hop_limit = w.3 in
          let is = limit net intent steps tunnel c position via x q hop p o f in
          let less : top - 1 ≡ hop - (w.0.found.most + 1) = omega (arith, top_is, is) in
          let rest_is : a.rest ≡ drop (count - w.0.left) steps
          = sym (left_is_law steps a.rest a.last) ∙ ap (λ (m : ℕ). drop (count - m) steps) (a.long ∙ sym w.2) in
          Moved f.sid (leg_with count w.0.found.most w.0.left) y (onward top)
          (leg_from net c.keeps intent steps c.are position via f.sid w.0 middle) (shape_prefix net f.sid ∙ f.prefix)
          (omega (arith, low, is)) to
          (subst (λ (j : ℕ). Along tunnel y j (onward top)) less
          (along_next tunnel x y top (top - 1) (packet a) f.entry.psp (at_limit top) to))
          (hands_behind long.0 own.0 a (count - w.0.left) rest_is)
          (λ other uaken g longest over.
          let b = f.each other uaken g (started net intent steps tunnel c position via x q hop p o f other uaken g over) in
          let same : b.met.walked.hop ≡ top = least w.0 w.1 w.3 other uaken g b longest ∙ sym top_is in
          let go = goes_over other uaken g b in
          let at = goes_at other uaken g b in
          let n = uaken + length b.met.walked.links in (
            n + 0,
            go.0,
            subst (λ (m : ℕ). Longest net intent (Some f.sid) (onward m) other (n + 0)) same
                (tight.on via o.place (place_behind f.sid f.entry) ts p (onward b.met.walked.hop) other uaken f.sid
                (onward_from f.sid f.entry.behaviour) b.met.stop o.from from_sid b.met.walked (at.1 (other n))
                (behind_there other uaken g b) at.0 refl longest),
            (
              go.1.0,
              ap (λ (l : Option Place). hand_of net (walk_of go.1.0 net l (V6 (onward top)) other (n + 0))) from_sid
                  ∙ ap (λ (m : ℕ). hand_of net (walk_of go.1.0 net (Some (place_behind f.sid f.entry)) (V6 (onward m)) other (n + 0)))
                  (sym same)
                  ∙ go.1.1,
            ),
            sids_there net intent steps tunnel c position via x q hop p o f other uaken g b ∙ sym (ap (λ (l : Handed). l.sids) go.2),
          ))
