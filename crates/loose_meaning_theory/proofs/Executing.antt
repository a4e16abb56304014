-- What is handed over along steps, taken apart: where the first SID is executed on the way, and what is handed over from there.
use Rattle.std.proofs.Common.{◌≡◌, ℕ, ◌+◌, List, [], ◌∷◌, map, length, Option, Some, slice_get, refl, sym, ◌∙◌, ap, subst, arith}
use Rattle.std.specs.Option.{option_and_then}
use Rattle.srv6_rules.specs.declared.sid.SidEntry.{SidEntry}
use Rattle.srv6_rules.specs.Packet.{Packet, V6}
use Rattle.net_model.specs.Network.{Network}
use Rattle.walk_rules.specs.declared.place.Outcome.{Outcome}
use Rattle.walk_rules.specs.declared.place.Outcome.TheVariants as outcomes
use Rattle.walk_rules.specs.declared.place.Place.{Place}
use Rattle.walk_rules.specs.Treatment.{Gave, free_step_of as step_of}
use Rattle.walk_rules.specs.Walk.{Stage, free_walk_of as walk_of}
use Rattle.walk_rules.specs.Way.{Into, way_of}
use Rattle.walk_rules.proofs.PublicLaws.{free_again, free_hand}
use Rattle.intent_traces.specs.declared.trace_steps.TraceStep.{TraceStep}
use Rattle.choice_graph.proofs.GraphOptions.{map_some, some_same}
use Rattle.loose_walks.specs.WayGraphsTerms.{IsLeft}
use Rattle.loose_walks.specs.WalkStops.{ends_in}
use Rattle.loose_walks.specs.WalkStopsTerms.{Stop, first_stop, stop_by, SendsNothing}
use Rattle.loose_walks.proofs.Reaching.{stop_left}
use Rattle.leg_table.specs.TransitsTerms.{with_hop_limit}
use Rattle.leg_table.specs.WalkTrace.{Crossed, TraceEvent, Executed, Handed, after_events}
use Rattle.loose_meaning_theory.specs.LooseKind.{behind_event, hand_first, hand_of, kept_from}
use Rattle.loose_meaning_theory.proofs.LooseKindStages.{Hands, again_parts, first_hands, hand_more}
use Rattle.loose_meaning_theory.proofs.OneLegKept.{KeepsOn, keeps_link, keeps_on, links_kept}
use Rattle.loose_meaning_theory.proofs.StopWalks.{SameRows, StopWalk, stop_walk}

-- a SID is executed at a place, and its events come first in what is handed over
pub record IsExecuted (net : Network) (at : Place) (q : Packet) (g : Handed) : Type 0 where
  pub sid : ℕ
  pub entry : SidEntry
  pub there : slice_get net.sids sid ≡ Some entry
  pub stands : entry.node ≡ at.node
  pub into : way_of net at q.destination ≡ Into sid
  pub trace : List TraceEvent
  pub trace_is : g.trace ≡ Executed sid ∷ trace
  pub sids : List ℕ
  pub sids_is : g.sids ≡ sid ∷ sids

-- what is handed over along steps, with marks
pub record Met (net : Network) (count : ℕ) (ts : List TraceStep) (place : Place) (p : Packet) (pick : ℕ → ℕ) (taken : ℕ) (h : Handed)
    (marks : List ℕ)
    : Type 0 where
  pub fuel : ℕ
  pub stop : Stop
  pub first : first_stop (ends_in net) ts (walk_of fuel net (Some place) (V6 p) pick taken) ≡ Some stop
  pub walked : StopWalk net ts place p pick taken stop
  pub last : IsLeft ts stop.left
  pub behind : Handed
  pub over : Hands net stop.stage.place (V6 (with_hop_limit walked.hop p)) pick (taken + length walked.links) behind
  pub is : after_events (map Crossed walked.links) behind ≡ h
  pub executed : IsExecuted net stop.stage.place (with_hop_limit walked.hop p) behind
  pub keeps : KeepsOn net count executed.sid stop.left executed.trace marks

module _ (net : Network) where
  -- a walk that hands over along steps comes to a stop
  hand_stops : (ss : List Stage) (count : ℕ) (ts : List TraceStep) (h : Handed) (marks : List ℕ) → hand_of net ss ≡ Some h
      → kept_from net count ts h.trace ≡ Some marks → (stop : Stop) × (first_stop (ends_in net) ts ss ≡ Some stop)
  hand_stops [] count ts h marks e kept = absurd (cc)
  hand_stops (s ∷ ss) count ts h marks e kept = by_outcome s.gave.outcome e (λ us k. hand_stops ss count us k marks)
    where
      by_outcome : (o : Outcome) → hand_first net s.gave o (hand_of net ss) ≡ Some h
          → ((us : List TraceStep) (k : Handed) → hand_of net ss ≡ Some k → kept_from net count us k.trace ≡ Some marks
          → (stop : Stop) × (first_stop (ends_in net) us ss ≡ Some stop))
          → (stop : Stop) × (stop_by (ends_in net) (λ us. first_stop (ends_in net) us ss) ts s o ≡ Some stop)
      by_outcome (outcomes.Send link) e ih =
          let m = map_some (behind_event (Crossed link)) (hand_of net ss) h e in
          let t = keeps_link net count link ts m.0.trace marks (ap (λ (x : Handed). kept_from net count ts x.trace) m.2 ∙ kept) in
          let i = ih t.0 m.0 m.1 t.2 in
          (i.0, ap (option_and_then (λ us. first_stop (ends_in net) us ss)) t.1 ∙ i.1)
      by_outcome (outcomes.Again n how) e ih = (record { stage = s; left = ts }, refl)
      by_outcome (outcomes.Hand n how family) e ih = (record { stage = s; left = ts }, refl)
      by_outcome outcomes.Local e ih = absurd (cc)
      by_outcome (outcomes.Drop reason error) e ih = absurd (cc)

  same_packet : (p q : Packet) → V6 p ≡ V6 q → p ≡ q
  same_packet p q e = cc

  -- a stage that sends nothing and from which something is handed over executes a SID
  executed_by : (at : Place) (q : Packet) (choice : ℕ) (g : Handed) (later : Option Handed) (o : Outcome)
      → (step_of net at (V6 q) choice).outcome ≡ o → SendsNothing o → hand_first net (step_of net at (V6 q) choice) o later ≡ Some g
      → IsExecuted net at q g
  executed_by at q choice g later (outcomes.Send link) is nothing e = absurd nothing
  executed_by at q choice g later (outcomes.Again n how) is nothing e =
      let a = again_parts net n later g e in
      let x = free_again net at (V6 q) choice n how is in
      let same = same_packet q x.packet x.is_packet in
      record {
        sid = n;
        entry = x.sid;
        there = x.is_there;
        stands = x.stands;
        into = ap (λ (r : Packet). way_of net at r.destination) same ∙ x.way;
        trace = a.1.trace;
        trace_is = ap (λ (y : Handed). y.trace) (sym a.3);
        sids = a.1.sids;
        sids_is = ap (λ (y : Handed). y.sids) (sym a.3);
      }
  executed_by at q choice g later (outcomes.Hand n how family) is nothing e =
      let own : Handed
      = record { trace = Executed n ∷ []; sids = n ∷ []; content = (step_of net at (V6 q) choice).after } in
      let all = some_same own g e in
      let x = free_hand net at (V6 q) choice n how family is in
      let same = same_packet q x.packet x.is_packet in
      record {
        sid = n;
        entry = x.sid;
        there = x.is_there;
        stands = x.stands;
        into = ap (λ (r : Packet). way_of net at r.destination) same ∙ x.way;
        trace = [];
        trace_is = ap (λ (y : Handed). y.trace) (sym all);
        sids = [];
        sids_is = ap (λ (y : Handed). y.sids) (sym all);
      }
  executed_by at q choice g later outcomes.Local is nothing e = absurd (cc)
  executed_by at q choice g later (outcomes.Drop reason error) is nothing e = absurd (cc)

  -- a row with the same choices up to a stop hands over what is handed over from there
  pub stop_over : (ts : List TraceStep) (place : Place) (p : Packet) (pick : ℕ → ℕ) (taken : ℕ) (stop : Stop)
      → (w : StopWalk net ts place p pick taken stop) → (other : ℕ → ℕ) (uaken : ℕ) → SameRows (length w.links) pick taken other uaken
      → (h : Handed) → Hands net place (V6 p) other uaken h
      → (g : Handed) × Hands net stop.stage.place (V6 (with_hop_limit w.hop p)) other (uaken + length w.links) g
      × (after_events (map Crossed w.links) g ≡ h)
  stop_over ts place p pick taken stop w other uaken same h hands =
      let n = length w.links in
      let whole = hand_more net hands.0 (n + hands.0) (omega arith) (Some place) (V6 p) other uaken h hands.1 in
      let got = map_some (after_events (map Crossed w.links))
      (hand_of net (walk_of hands.0 net (Some stop.stage.place) (V6 (with_hop_limit w.hop p)) other (uaken + n))) h
      (sym (w.walk other uaken same hands.0) ∙ whole) in
      (got.0, (hands.0, got.1), got.2)

  pub met : (count : ℕ) (ts : List TraceStep) (place : Place) (p : Packet) (pick : ℕ → ℕ) (taken : ℕ) (h : Handed) (marks : List ℕ)
      → Hands net place (V6 p) pick taken h → kept_from net count ts h.trace ≡ Some marks
      → Met net count ts place p pick taken h marks
  met count ts place p pick taken h marks hands kept =
      let ss = walk_of hands.0 net (Some place) (V6 p) pick taken in
      let s = hand_stops ss count ts h marks hands.1 kept in
      let w = stop_walk net hands.0 ts place p pick taken s.0 s.1 in
      let n = length w.links in
      let q = with_hop_limit w.hop p in
      let at = s.0.stage.place in
      let got = stop_over ts place p pick taken s.0 w pick taken (λ d few. refl) h hands in
      let gave = step_of net at (V6 q) (pick (taken + n)) in
      let f = first_hands net at (V6 q) pick (taken + n) got.0 gave refl got.1 in
      let nothing : SendsNothing gave.outcome = subst (λ (x : Gave). SendsNothing x.outcome) w.gave w.nothing in
      let x = executed_by at q (pick (taken + n)) got.0 _ gave.outcome refl nothing f.1 in
      let trace : kept_from net count s.0.left (Executed x.sid ∷ x.trace) ≡ Some marks
      = ap (kept_from net count s.0.left) (sym x.trace_is) ∙ sym (links_kept net count w.links ts s.0.left got.0.trace w.left)
      ∙ ap (λ (y : Handed). kept_from net count ts y.trace) got.2 ∙ kept in
      record {
        fuel = hands.0;
        stop = s.0;
        first = s.1;
        walked = w;
        last = stop_left (ends_in net) ts ss s.0 s.1;
        behind = got.0;
        over = got.1;
        is = got.2;
        executed = x;
        keeps = keeps_on net count x.sid s.0.left x.trace marks trace;
      }
