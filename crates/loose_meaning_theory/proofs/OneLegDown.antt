-- Down to a leg, or to a finish: what becomes of a packet at a place of a list that is handed over along steps, with the same marks, under
-- every row of choices.
use Rattle.std.proofs.Common.{◌≡◌, ℕ, ◌+◌, ◌<◌, ◌≤◌, not, List, length, Option, None, slice_get, refl, sym, ◌∙◌, ap}
use Rattle.std.specs.Prelude.{is_some}
use Rattle.std.proofs.lemmas.Bool.{and_from, false≢true}
use Rattle.v6_addr.specs.Address.{PrefixValue}
use Rattle.srv6_rules.specs.Behaviours.{goes_on}
use Rattle.srv6_rules.specs.Endpoint.{Delivered, Endpoint, Exposed, Onward, Refused, at_sid}
use Rattle.srv6_rules.specs.Packet.{Packet, V6}
use Rattle.net_model.specs.Network.{Network}
use Rattle.walk_rules.specs.Treatment.{Gave, allow_of, free_step_of as step_of}
use Rattle.walk_rules.proofs.PublicLaws.{onward_each}
use Rattle.intent_reader.specs.declared.intent.Intent.{Intent}
use Rattle.sid_list_theory.specs.ListPlaces as lists
use Rattle.sid_list_theory.specs.ListPlaces.{Tunnel, Along, active}
use Rattle.sid_list_theory.proofs.PublicLaws.{along_only}
use Rattle.list_pack.specs.SidLists.{IsSidPrefix, list_sid}
use Rattle.list_pack.specs.LegsValueTerms.{IsVia}
use Rattle.intent_traces.specs.declared.trace_steps.TraceStep.{TraceStep}
use Rattle.leg_table.proofs.AllHands.{moved_goes}
use Rattle.leg_table.proofs.HopLimits.{onward_moves}
use Rattle.leg_table.specs.NestLegsTerms.{PlaceKeeps}
use Rattle.leg_table.specs.OneLegLaws.{AlwaysHands, BecomesOf, LegKind}
use Rattle.leg_table.specs.TransitsTerms.{with_hop_limit}
use Rattle.leg_table.specs.PositionSids.{binds, sid_binds}
use Rattle.leg_table.specs.WalkTrace.{Handed}
use Rattle.loose_meaning_theory.specs.LooseKind.{hand_first, loose_kind}
use Rattle.loose_meaning_theory.specs.LongestWays.{Longest}
use Rattle.loose_meaning_theory.proofs.LooseKindStages.{none_dropped}
use Rattle.loose_meaning_theory.proofs.First.{At, HandsAt, IsFirst, Setting, always, along_at, first, from, starts}
use Rattle.loose_meaning_theory.proofs.Tight.{AreTight}
use Rattle.loose_meaning_theory.proofs.OneLegEnds.{ended, gives}
use Rattle.loose_meaning_theory.proofs.OneLegGoing.{moved}

module _ (net : Network) (intent : Intent) (steps : List TraceStep) (tunnel : Tunnel) (c : Setting net intent steps tunnel)
    (tight : AreTight net intent steps) where
  abbrev k : LegKind
  k = loose_kind net intent steps

  abbrev count : ℕ
  count = length steps

  module _ (position : ℕ) (via : Option ℕ) (x : lists.ListPlace) (q : PrefixValue) (hop : ℕ) (p : Packet)
      (o : HandsAt net intent steps tunnel c position via x q hop p)
      (f : IsFirst net intent steps tunnel c position via x q hop p o) where
    abbrev Become : Type 0
    Become = BecomesOf k (Longest net intent) tunnel x q position via hop p

    -- where a row executes the SID
    abbrev There : (ℕ → ℕ) → ℕ → Handed → Type 0
    There = At net intent steps tunnel c position via x q hop p o f.sid f.entry f.left f.later

    abbrev at_limit : (limit : ℕ) → Along tunnel x limit (with_hop_limit limit p)
    at_limit = along_at net intent steps tunnel c position via x q hop p o

    abbrev allow : {pick : ℕ → ℕ} {taken : ℕ} {h : Handed} → There pick taken h → List ℕ
    allow a = allow_of (slice_get net.nodes a.met.stop.stage.place.node)

    abbrev packet : {pick : ℕ → ℕ} {taken : ℕ} {h : Handed} → There pick taken h → Packet
    packet a = with_hop_limit a.met.walked.hop p

    -- ---- what comes of the packet at the SID: it is exposed, or goes on

    pub becomes : Become
    becomes = by_end (at_sid f.entry (allow a) (packet a)) refl
      where
        zeros : ℕ → ℕ
        zeros d = 0

        h : Handed
        h = (o.all zeros 0).0

        a : There zeros 0 h
        a = f.each zeros 0 h (o.all zeros 0).1

        choice : ℕ
        choice = zeros (0 + length a.met.walked.links)

        lost : (gave : Gave) → step_of net a.met.stop.stage.place (V6 (packet a)) choice ≡ gave
            → ((later : Option Handed) → hand_first net gave gave.outcome later ≡ None) → ⊥
        lost gave is none =
            none_dropped net a.met.stop.stage.place (V6 (packet a)) zeros (0 + length a.met.walked.links) a.met.behind gave is none
            a.met.over

        onwards : (r : Packet) → at_sid f.entry (allow a) (packet a) ≡ Onward r → Become
        onwards r is =
            let only = along_only f.entry (allow a) tunnel x a.met.walked.hop (packet a) r (at_limit a.met.walked.hop) f.on is in
            let moves = onward_moves f.entry (packet a) (allow a) r is in
            let goes-it = moved_goes f.entry x f.on (packet a) moves in
            let Stage : Gave → Type 0
            = λ gave. ((choice : ℕ) → step_of net a.met.stop.stage.place (V6 (packet a)) choice ≡ gave) → Become in
            onward_each net a.met.stop.stage.place.node f.sid f.entry.behaviour (packet a) r Stage
            (λ none all. moved net intent steps tunnel c tight position via x q hop p o f only.1
            (and_from (goes_on f.entry) (not (binds f.entry)) goes-it (ap (λ (l : Option ℕ). not (is_some l)) none)) only.2)
            (λ number named binding policy fits all.
            absurd (false≢true (sym f.unbound ∙ (ap sid_binds f.there ∙ ap (λ (l : Option ℕ). is_some l) binding))))
            (λ reason all. absurd (lost _ (all choice) (λ later. refl)))
            (gives net intent steps tunnel c position via x q hop p o f zeros 0 h a (Onward r) is)

        by_end : (e : Endpoint) → at_sid f.entry (allow a) (packet a) ≡ e → Become
        by_end (Onward r) is = onwards r is
        by_end (Exposed inner bytes) is = ended net intent steps tunnel c position via x q hop p o f zeros 0 h a inner bytes is
        by_end (Delivered r) is =
            absurd (lost _ (gives net intent steps tunnel c position via x q hop p o f zeros 0 h a (Delivered r) is choice) (λ later. refl))
        by_end (Refused reason at) is =
            absurd (lost _ (gives net intent steps tunnel c position via x q hop p o f zeros 0 h a (Refused reason at) is choice)
            (λ later. refl))

  pub leg_down : (x : lists.ListPlace) (q : PrefixValue) (position : ℕ) (via : Option ℕ) (hop : ℕ) (p : Packet)
      → position ≤ count → IsVia k.legs position via → Along tunnel x hop p → PlaceKeeps net x → active x ≡ list_sid net q
      → IsSidPrefix net q → 0 < hop → AlwaysHands k via p position → BecomesOf k (Longest net intent) tunnel x q position via hop p
  leg_down x q position via hop p within at along nests to named positive hands =
      let start = starts net intent steps tunnel c position via within at in
      let place = from net intent steps tunnel c position via start in
      let o : HandsAt net intent steps tunnel c position via x q hop p
      = record {
        place = place.0;
        start = start;
        from = place.1;
        along = along;
        nests = nests;
        to = to;
        named = named;
        positive = positive;
        marks = hands.0;
        all = always net intent steps tunnel c position via p place.0 place.1 hands;
      } in
      becomes position via x q hop p o (first net intent steps tunnel c position via x q hop p o)
