-- Where the packet inside is exposed at the SID that is executed first, there is a finish.
use Rattle.std.proofs.Common.{◌≡◌, ℕ, ◌+◌, ◌<◌, Bool, true, List, [], ◌∷◌, drop, length, Option, Some, slice_get, refl, sym, ◌∙◌, ap, arith}
use Rattle.std.proofs.lemmas.Bool.{eq-eqb}
use Rattle.v6_addr.specs.Address.{PrefixValue}
use Rattle.srv6_rules.specs.declared.family.Family.{Family}
use Rattle.srv6_rules.specs.declared.sid.SidEntry.{SidEntry}
use Rattle.srv6_rules.specs.Endpoint.{Endpoint, Exposed, at_sid}
use Rattle.srv6_rules.specs.Packet.{Packet, V6, read_as}
use Rattle.net_model.specs.Network.{Network}
use Rattle.walk_rules.specs.declared.place.Outcome.{Outcome}
use Rattle.walk_rules.specs.declared.place.Outcome.TheVariants as outcomes
use Rattle.walk_rules.specs.declared.place.Place.{Place}
use Rattle.walk_rules.specs.Treatment.{Gave, allow_of, exposed_from, goes, treated_at_sid, free_step_of as step_of}
use Rattle.walk_rules.specs.Walk.{choice_at, free_walk_of as walk_of}
use Rattle.intent_reader.specs.declared.intent.Intent.{Intent}
use Rattle.sid_list_theory.specs.ListPlaces as lists
use Rattle.sid_list_theory.specs.ListPlaces.{Tunnel, Along}
use Rattle.sid_list_theory.proofs.PublicLaws.{along_exposes, along_hop}
use Rattle.intent_traces.specs.declared.trace_steps.TraceStep.{TraceStep}
use Rattle.leg_table.proofs.StrictExecutions.{stage_into}
use Rattle.leg_table.proofs.PathNames.{shape_prefix}
use Rattle.leg_table.specs.StrictLegsTerms.{has_packet_inside, is_exposed, is_hand, takes_out}
use Rattle.leg_table.specs.OneLegLaws.{BecomesOf, Ended, HandsOver, LegKind}
use Rattle.leg_table.specs.TransitsTerms.{with_hop_limit}
use Rattle.leg_table.specs.PositionSids.{hands_over, is_last, sid_address, sid_exposes}
use Rattle.leg_table.specs.WalkTrace.{Executed, Handed}
use Rattle.loose_legs_theory.specs.LooseSentences.{AlwaysExecutes}
use Rattle.loose_legs_theory.proofs.LooseSentenceMeaning.{finish_one}
use Rattle.loose_legs_theory.proofs.Sames.{AreAlike, address_alike}
use Rattle.loose_legs_theory.proofs.LooseSentenceWays.{finish_from}
use Rattle.loose_meaning_theory.specs.LooseKind.{hand_of, kept_from, loose_kind}
use Rattle.loose_meaning_theory.specs.LongestWays.{Longest}
use Rattle.loose_meaning_theory.proofs.LooseKindStages.{Hands, hand_over}
use Rattle.loose_meaning_theory.proofs.First.{At, HandsAt, IsFirst, Setting, along_at, same_trace}
use Rattle.loose_meaning_theory.proofs.OneLegKept.{none_parts, on_after}
use Rattle.loose_meaning_theory.proofs.OneLegShown.{shown_each}

module _ (net : Network) (intent : Intent) (steps : List TraceStep) (tunnel : Tunnel) (c : Setting net intent steps tunnel) where
  abbrev k : LegKind
  k = loose_kind net intent steps

  abbrev count : ℕ
  count = length steps

  module _ (position : ℕ) (via : Option ℕ) (x : lists.ListPlace) (q : PrefixValue) (hop : ℕ) (p : Packet)
      (o : HandsAt net intent steps tunnel c position via x q hop p)
      (f : IsFirst net intent steps tunnel c position via x q hop p o) where
    abbrev pub Become : Type 0
    Become = BecomesOf k (Longest net intent) tunnel x q position via hop p

    abbrev pub ts : List TraceStep
    ts = drop position steps

    -- where a row executes the SID
    abbrev pub There : (ℕ → ℕ) → ℕ → Handed → Type 0
    There = At net intent steps tunnel c position via x q hop p o f.sid f.entry f.left f.later

    abbrev pub at_limit : (limit : ℕ) → Along tunnel x limit (with_hop_limit limit p)
    at_limit = along_at net intent steps tunnel c position via x q hop p o

    abbrev pub allow : {pick : ℕ → ℕ} {taken : ℕ} {h : Handed} → There pick taken h → List ℕ
    allow a = allow_of (slice_get net.nodes a.met.stop.stage.place.node)

    abbrev pub packet : {pick : ℕ → ℕ} {taken : ℕ} {h : Handed} → There pick taken h → Packet
    packet a = with_hop_limit a.met.walked.hop p

    pub limit : p.hop_limit ≡ hop
    limit = along_hop tunnel x hop p o.along

    pub positive : 0 < p.hop_limit
    positive = let e = limit in let some = o.positive in omega (arith, e, some)

    pub alike : AreAlike net p.destination (sid_address net f.sid)
    alike = address_alike net c.facts f.sid f.entry f.there p.destination f.address

    -- what the SID makes of the packet that comes to it
    pub gives : (pick : ℕ → ℕ) (taken : ℕ) (h : Handed) (a : There pick taken h) (e : Endpoint) → at_sid f.entry (allow a) (packet a) ≡ e
        → (choice : ℕ)
        → step_of net a.met.stop.stage.place (V6 (packet a)) choice
        ≡ treated_at_sid net a.met.stop.stage.place.node f.sid f.entry.behaviour (packet a) e
    gives pick taken h a e is choice =
        stage_into net a.met.stop.stage.place (packet a) f.sid f.entry choice a.into f.there
        ∙ ap (treated_at_sid net a.met.stop.stage.place.node f.sid f.entry.behaviour (packet a)) is

    -- whatever is handed over from its place
    pub started : (pick : ℕ → ℕ) (taken : ℕ) (h : Handed) → HandsOver k via p pick taken h → Hands net o.place (V6 p) pick taken h
    started pick taken h over =
        (over.0, ap (λ (l : Option Place). hand_of net (walk_of over.0 net l (V6 p) pick taken)) (sym o.from) ∙ over.1)

    -- what is handed over executes the SIDs that are executed from there
    pub sids_there : (pick : ℕ → ℕ) (taken : ℕ) (h : Handed) (a : There pick taken h) → h.sids ≡ a.met.behind.sids
    sids_there pick taken h a = sym (ap (λ (g : Handed). g.sids) a.met.is)

    -- the SID is executed, by its outcome, under every list of choices
    pub always_executes : (executes : ℕ → Outcome → Bool)
        → ((pick : ℕ → ℕ) (taken : ℕ) (h : Handed) (a : There pick taken h)
        → executes f.sid (step_of net a.met.stop.stage.place (V6 (packet a)) (pick (taken + length a.met.walked.links))).outcome ≡ true)
        → AlwaysExecutes net executes ts f.sid f.left p o.place
    always_executes executes by choices some =
        let own = o.all (choice_at choices) 0 in
        let a = f.each (choice_at choices) 0 own.0 own.1 in (
          a.met.fuel,
          record {
            stop = a.met.stop;
            first = a.met.first;
            outcome = ap (λ (g : Gave). executes f.sid g.outcome) a.met.walked.gave ∙ by (choice_at choices) 0 own.0 a;
            behind = on_after net f.sid a.met.stop.left a.rest a.on_is ∙ ap (λ (n : ℕ). Some n) a.long;
          },
        )

    -- ---- the packet is exposed

    module _ (pick : ℕ → ℕ) (taken : ℕ) (h : Handed) (a : There pick taken h) (inner : Family) (bytes : List ℕ)
        (shows : at_sid f.entry (allow a) (packet a) ≡ Exposed inner bytes) where
      abbrev inside : Gave
      inside = goes (outcomes.Hand f.sid (exposed_from f.sid f.entry.behaviour) tunnel.inner) (read_as tunnel.inner tunnel.bytes)

      shown : (other : List ℕ) (hop : ℕ) → at_sid f.entry other (with_hop_limit hop p) ≡ Exposed tunnel.inner tunnel.bytes
      shown other hop =
          shown_each f.entry (allow a) tunnel x a.met.walked.hop (packet a) inner bytes (at_limit a.met.walked.hop) f.on shows other hop
          (with_hop_limit hop p) (at_limit hop)

      -- so it is under every row
      shown_at : (other : ℕ → ℕ) (uaken : ℕ) (g : Handed) (b : There other uaken g) → (choice : ℕ)
          → step_of net b.met.stop.stage.place (V6 (packet b)) choice ≡ inside
      shown_at other uaken g b choice = gives other uaken g b (Exposed tunnel.inner tunnel.bytes) (shown (allow b) b.met.walked.hop) choice

      ends_at : (other : ℕ → ℕ) (uaken : ℕ) (g : Handed) (b : There other uaken g)
          → (b.met.behind.sids ≡ f.sid ∷ []) × (b.met.behind.trace ≡ Executed f.sid ∷ [])
      ends_at other uaken g b =
          hand_over net b.met.stop.stage.place (V6 (packet b)) (read_as tunnel.inner tunnel.bytes) other (uaken + length b.met.walked.links)
          b.met.behind f.sid (exposed_from f.sid f.entry.behaviour) tunnel.inner
          (shown_at other uaken g b (other (uaken + length b.met.walked.links))) b.met.over

      none_left : f.left ≡ 0
      none_left =
          let none : [] ≡ a.trace = same_trace f.sid [] a.trace (sym (ends_at pick taken h a).1 ∙ a.trace_is) in
          let rest = none_parts a.rest f.later (ap (kept_from net count a.rest) none ∙ a.kept) in
          sym a.long ∙ ap (λ (us : List TraceStep). length us) rest.0

      pub ended : Become
      ended =
          let parts = along_exposes f.entry (allow a) tunnel x a.met.walked.hop (packet a) inner bytes (at_limit a.met.walked.hop) f.on
          shows in
          let opens : hands_over intent.inner f.entry ≡ true = ap (λ (g : Family). hands_over g f.entry) (sym c.family) ∙ parts.1 in
          let last : is_last net intent.inner f.sid ≡ true = ap (sid_exposes intent.inner) f.there ∙ opens in
          let has : has_packet_inside net f.sid p ≡ true
          = ap (λ (l : Option SidEntry). takes_out l p) f.there ∙ ap is_exposed (shown [] p.hop_limit) in
          let w = finish_one net c.keeps intent steps c.are position via f.sid p.destination alike o.place f.left p o.start last o.from
          refl has positive
          (always_executes is_hand
          (λ other uaken g b. ap (λ (l : Gave). is_hand f.sid l.outcome)
          (shown_at other uaken g b (other (uaken + length b.met.walked.links))) ∙ eq-eqb f.sid f.sid refl)) in
          let low : w.0.found.most < p.hop_limit = w.3 in
          let is = limit in
          Ended f.sid w.0.found.most (finish_from net c.keeps intent steps c.are position via f.sid w.0 last (w.2 ∙ none_left))
          (shape_prefix net f.sid ∙ f.prefix) (omega (arith, low, is)) parts.0
          (λ other uaken g over.
          let b = f.each other uaken g (started other uaken g over) in
          sids_there other uaken g b ∙ (ends_at other uaken g b).0)
