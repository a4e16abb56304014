-- Steps written into a packet's bytes, and what comes of the packet.
use Rattle.std.proofs.Common.{◌≡◌, ℕ, ◌+◌, ◌-◌, ◌*◌, ◌^◌, ◌<◌, ◌≤◌, Bool, true, false, ◌==◌, ◌&&◌, not, nat_le, if◌then◌else◌, List, length, slice_index, refl, sym, ap, subst, ◌∙◌, arith, inl, inr}
use Rattle.std.specs.Prelude.{Some, None}
use Rattle.std.proofs.lemmas.Bool.{cases_Bool, and_parts, eqb-true, eqb-false, eq-eqb, ne_eqb}
use Rattle.std.proofs.lemmas.List.{length-set}
use Rattle.srv6_rules.specs.declared.compression.Compression.{Compression}
use Rattle.srv6_rules.specs.declared.numbers.TheConstants.{MAX_PACKET_LEN}
use Rattle.srv6_rules.specs.declared.sid.Csid.{Csid}
use Rattle.srv6_rules.specs.declared.sid.Csid.TheVariants as csids
use Rattle.srv6_rules.specs.declared.reason.Reason.{Reason}
use Rattle.srv6_rules.specs.declared.sid.SidEntry.{SidEntry}
use Rattle.srv6_rules.specs.Packet.{Packet, IsSpellable, header_len, packet_at, spelling}
use Rattle.srv6_rules.specs.PacketTerms.{Spells}
use Rattle.srv6_rules.specs.Areas.{Fault, tlvs_fault}
use Rattle.srv6_rules.specs.Srh.{Srh, srh_of}
use Rattle.srv6_rules.specs.Chain.{ChainPlace, Header, extension_bytes, routing, routing_type, without}
use Rattle.srv6_rules.specs.ChainTerms.{LiesIn}
use Rattle.srv6_rules.specs.Compressed.{argument_of}
use Rattle.srv6_rules.specs.CompressedSteps.{Move, ReplaceStep, Moved, AtEnd, Dropped, compression_of, is_next, is_replace, is_at_end, shifted, moved, replace_step}
use Rattle.srv6_rules.specs.CompressedStepsTerms.{IsNext, IsReplace, SuitsKind, SuitsCompression, with_hop_and_destination}
use Rattle.srv6_rules.specs.Endpoint.{Endpoint, Onward, Refused, after_step, as_in, by_replace_step, has_bad_segments, leaves_none, next_csid, next_segment, outcome_without, shifts_at}
use Rattle.srv6_rules.proofs.PublicLaws.{lies_bytes, shifted_spellable, srh_of_spellable, step_at_end, step_place, step_spellable, tlvs_fault_within}
use Rattle.pkt_buf.specs.BufferLending.{left_in}
use Rattle.pkt_buf.proofs.PublicLaws.{left_whole}
use Rattle.next_csid.specs.Shifting.{IsShifted}
use Rattle.replace_csid.specs.Replacing.{IsMoved, IsReplaced, step_at, with_move}
use Rattle.replace_csid.specs.declared.replace_step.ReplaceOutcome.{ReplaceOutcome}
use Rattle.replace_csid.proofs.PublicLaws.{place_value}
use Rattle.endpoint_chain.specs.Outcomes.{ComesOf, HoldsAlone, Leaves}
use Rattle.endpoint_chain.specs.declared.outcome.EndOutcome.{EndOutcome}
use Rattle.endpoint_chain.proofs.PublicLaws.{alone_spelled, alone_spellable, alone_length}
use Rattle.end_behaviours.specs.HeaderFinding.{LiesAt, header_of, is_last}
use Rattle.end_behaviours.specs.declared.stepping.SegmentStep.{SegmentStep}
use Rattle.end_behaviours.specs.SrhStepping.{IsSegmentStep, move_to}
use Rattle.end_behaviours.proofs.AloneLemmas.{Rewritten, header_written, lent_spells, move_written, moved_spellable, spelled_alone}

pub comes_same : (e f : Endpoint) (old new : List ℕ) (outcome : EndOutcome) → e ≡ f → ComesOf f old new outcome
    → ComesOf e old new outcome
comes_same e f old new outcome same comes =
    let P : Endpoint → Type 0 = λ x. ComesOf x old new outcome in subst P (sym same) comes

pub suits_next : (k : Csid) (c : Compression) (b : Bool) → (is_next k && b) ≡ true → SuitsKind k c → IsNext c
suits_next csids.Plain c b e suits = cc
suits_next csids.Next c b e suits = suits
suits_next csids.Replace c b e suits = cc

pub suits_replace : (k : Csid) (c : Compression) → is_replace k ≡ true → SuitsKind k c → IsReplace c
suits_replace csids.Plain c e suits = cc
suits_replace csids.Next c e suits = cc
suits_replace csids.Replace c e suits = suits

-- a header ends in the bytes
pub header_ends : (bytes : List ℕ) (place : ChainPlace) (len : ℕ) → HoldsAlone bytes → LiesAt (packet_at bytes) place.at place len
    → (place.at + len ≤ length bytes) × (8 ≤ len)
header_ends bytes place len alone header =
    let within = header.lies.within in
    let least = header.lies.least in
    let long = header.long in
    let all = alone_length bytes alone in
    (omega arith, omega arith)

-- what is said of bytes that were lent is said of those that they were
pub replaced_in : (c k : Compression) (at : ℕ) (old lent new : List ℕ) (outcome : ReplaceOutcome) → k ≡ c → lent ≡ old
    → IsReplaced k at lent new outcome → IsReplaced c at old new outcome
replaced_in c k at old lent new outcome kind same is =
    let P : Compression → Type 0 = λ x. IsReplaced x at lent new outcome in
    let Q : List ℕ → Type 0 = λ xs. IsReplaced c at xs new outcome in
    subst Q same (subst P kind is)

pub shifted_in : (c k : Compression) (old lent new : List ℕ) → k ≡ c → lent ≡ old → IsShifted k lent new → IsShifted c old new
shifted_in c k old lent new kind same is =
    let P : Compression → Type 0 = λ x. IsShifted x lent new in
    let Q : List ℕ → Type 0 = λ xs. IsShifted c xs new in
    subst Q same (subst P kind is)

pub judged_in : (old seen : List ℕ) (place : ChainPlace) (len : ℕ) (judged : SegmentStep) → seen ≡ old
    → IsSegmentStep (packet_at seen) place.at (srh_of (header_of (packet_at seen) place len).bytes) judged
    → IsSegmentStep (packet_at old) place.at (srh_of (header_of (packet_at old) place len).bytes) judged
judged_in old seen place len judged same is =
    let P : List ℕ → Type 0 = λ xs. IsSegmentStep (packet_at xs) place.at (srh_of (header_of (packet_at xs) place len).bytes) judged in
    subst P same is

-- ---- the shift

hop_fine : (low : Bool) (f : Fault) → (if low then Some f else None) ≡ None → low ≡ false
hop_fine true f e = cc
hop_fine false f e = refl

pub record Shifts (s : SidEntry) (old new : List ℕ) : Type 0 where
  pub leaves : Leaves (next_csid s (packet_at old)) Onward (left_in old new)
  pub long : length (left_in old new) ≡ length old

pub shift_leaves : (s : SidEntry) (old new : List ℕ) → SuitsCompression s → HoldsAlone old → shifts_at s (packet_at old) ≡ true
    → IsShifted (compression_of s) old new → Shifts s old new
shift_leaves s old new suits alone shifts is =
    let p : Packet = packet_at old in
    let c : Compression = compression_of s in
    let q : Packet = shifted c p in
    let fine : nat_le p.hop_limit 1 ≡ false = hop_fine (nat_le p.hop_limit 1) _ is.hop_limit in
    let next = suits_next s.csid c (not (argument_of p.destination s.prefix.len == 0)) shifts suits in
    let written : new ≡ spelling q =
    is.bytes ∙ ap (λ xs. with_hop_and_destination xs q.hop_limit q.destination) (alone_spelled old alone)
    ∙ header_written p q.hop_limit q.destination in
    let r = lent_spells old new q alone (shifted_spellable c p next (alone_spellable old alone)) written refl in
    record { leaves = record { packet = q; is = rw fine refl; spelled = r.spells }; long = r.long }

-- ---- a header popped after a step

popped : (pops : Bool) (h : Header) (q : Packet) (final : List ℕ) → Spells final (if pops then without q (as_in q h) else q)
    → Leaves (if pops then outcome_without h (Onward q) else Onward q) Onward final
popped true h q final s = record { packet = without q (as_in q h); is = refl; spelled = s }
popped false h q final s = record { packet = q; is = refl; spelled = s }

-- the bytes of the packet after a step, with the header at its place taken out or not
abbrev pub Popped : Bool → List ℕ → ChainPlace → ℕ → List ℕ → Type 0
Popped pops bytes place len final =
    Spells final (if pops then without (packet_at bytes) (header_of (packet_at bytes) place len) else packet_at bytes)

module _ (p : Packet) (place : ChainPlace) (len : ℕ) (header : LiesAt p place.at place len) where
  abbrev h : Header
  h = header_of p place len

  popped_of : (pops : Bool) (bytes final : List ℕ) (q : Packet) → Spells bytes q → Popped pops bytes place len final
      → Spells final (if pops then without q (as_in q h) else q)
  popped_of pops bytes final q spells out =
      let P : Packet → Type 0 = λ x. Spells final (if pops then without x (header_of x place len) else x) in
      let Q : ℕ → Type 0 = λ n. Spells final (if pops then without q (header_of q place n) else q) in
      subst Q (sym header.long) (subst P (spelled_alone bytes q spells).1 out)

  header_kind : h.place.kind ≡ routing
  header_kind = eqb-true place.kind routing (and_parts (place.kind == routing) (routing_type h == 4) header.routing).0

-- ---- the step over a whole segment

pub step_rewritten : (old new : List ℕ) (at left destination : ℕ) → HoldsAlone old → header_len ≤ at → left < 2 ^ 8
    → destination < 2 ^ 128 → new ≡ with_move old at (move_to left destination)
    → Rewritten old new (moved (packet_at old) at (move_to left destination))
step_rewritten old new at left destination alone behind small below is =
    let p : Packet = packet_at old in
    let m : Move = move_to left destination in
    lent_spells old new (moved p at m) alone (moved_spellable p at m (alone_spellable old alone) small below)
    (is ∙ move_written old at m alone behind) (length-set p.payload (at + 3 - 40) left)

pub none_is : (left n : ℕ) → n ≡ left + 1 → (left == 0) ≡ (n == 1)
none_is left n is = elim (cases_Bool (left == 0)) [
  | inl none ↦ let zero = eqb-true left 0 none in none ∙ sym (eq-eqb n 1 (omega arith))
  | inr some ↦ let more = eqb-false left 0 some in some ∙ sym (ne_eqb n 1 (λ one. more (omega arith)))
]

pub whole_leaves : (s : SidEntry) (old new final : List ℕ) (place : ChainPlace) (len left destination : ℕ)
    → (header : LiesAt (packet_at old) place.at place len)
    → let p = packet_at old in let srh = srh_of (header_of p place len).bytes in
    Rewritten old new (moved p place.at (move_to left destination))
    → next_segment p place.at srh ≡ Onward (moved p place.at (move_to left destination)) → srh.segments_left ≡ left + 1
    → Popped (s.psp && (left == 0)) (left_in old new) place len final
    → Leaves (after_step s (header_of p place len) (next_segment p place.at srh)) Onward final
whole_leaves s old new final place len left destination header r is one out =
    let p : Packet = packet_at old in
    let h : Header = header_of p place len in
    let q : Packet = moved p place.at (move_to left destination) in
    let none : (left == 0) ≡ leaves_none (srh_of h.bytes) = none_is left (srh_of h.bytes).segments_left one in
    let P : Bool → Type 0 = λ b. Leaves (if s.psp && b then outcome_without h (Onward q) else Onward q) Onward final in
    let Q : Endpoint → Type 0 = λ x. Leaves (after_step s h x) Onward final in
    subst Q (sym is)
    (subst P none
    (popped (s.psp && (left == 0)) h q final (popped_of p place len header (s.psp && (left == 0)) (left_in old new) final q r.spells out)))

-- ---- the step over packed segments

module _ (s : SidEntry) (old new : List ℕ) (place : ChainPlace) (len : ℕ) (suits : SuitsCompression s) (alone : HoldsAlone old)
    (packed : is_replace s.csid ≡ true) (header : LiesAt (packet_at old) place.at place len) where
  abbrev x : Header
  x = header_of (packet_at old) place len

  abbrev stepped : ReplaceStep
  stepped = replace_step (compression_of s) (packet_at old) place.at (srh_of x.bytes)

  pub step_here : stepped ≡ step_at (compression_of s) old place.at
  step_here =
      ap (replace_step (compression_of s) (packet_at old) place.at)
      (sym (place_value (packet_at old) x header.lies header.routing (alone_spellable old alone).payload))

  moved_fits : (q : Packet) (ended : Bool) → stepped ≡ Moved q ended → IsSpellable q
  moved_fits q ended e =
      let lies = header.lies in
      let bytes = lies_bytes (packet_at old) x lies (alone_spellable old alone).payload in
      let stated : length x.bytes ≡ 8 * (slice_index x.bytes 1 + 1) =
      lies.stated ∙ ap (λ k. extension_bytes k x.bytes) (header_kind (packet_at old) place len header) in
      let fits = srh_of_spellable x.bytes bytes (omega arith) in
      step_spellable (compression_of s) (packet_at old) q place.at (srh_of x.bytes) ended
      (suits_replace s.csid (compression_of s) packed suits) (alone_spellable old alone) fits.segments_left fits.body e

  pub packed_rewritten : (ended : Bool) (is : IsMoved (compression_of s) place.at old new ended)
      → Rewritten old new (moved (packet_at old) place.at is.move)
  packed_rewritten ended is =
      let p : Packet = packet_at old in
      let behind = header.stands.behind_header in
      lent_spells old new (moved p place.at is.move) alone (moved_fits (moved p place.at is.move) ended (step_here ∙ is.step))
      (is.bytes ∙ move_written old place.at is.move alone behind) (length-set p.payload (place.at + 3 - 40) is.move.segments_left)

  pub packed_leaves : (ended : Bool) (final : List ℕ) (behind : Endpoint) (is : IsMoved (compression_of s) place.at old new ended)
      → Popped (s.psp && ended) (left_in old new) place len final
      → Leaves (by_replace_step s x behind stepped) Onward final
  packed_leaves ended final behind is out =
      let q : Packet = moved (packet_at old) place.at is.move in
      let Q : ReplaceStep → Type 0 = λ r. Leaves (by_replace_step s x behind r) Onward final in
      let r = packed_rewritten ended is in
      subst Q (sym (step_here ∙ is.step))
      (popped (s.psp && ended) x q final
      (popped_of (packet_at old) place len header (s.psp && ended) (left_in old new) final q r.spells out))

  -- a header that is not at its end
  pub packed_never_ends : is_last s (packet_at old) x ≡ false → step_at (compression_of s) old place.at ≡ AtEnd → ⊥
  packed_never_ends more end =
      let at_end : is_at_end (compression_of s) (srh_of x.bytes) (packet_at old).destination ≡ true =
      step_at_end (compression_of s) (packet_at old) place.at (srh_of x.bytes) (step_here ∙ end) in
      let none : is_last s (packet_at old) x ≡ true = rw packed at_end in
      cc

  pub packed_drops : (reason : Reason) (at : ℕ) (behind : Endpoint)
      → step_at (compression_of s) old place.at ≡ Dropped (record { reason = reason; at = at }) → new ≡ old
      → (by_replace_step s x behind stepped ≡ Refused reason at) × (left_in old new ≡ old)
  packed_drops reason at behind is same =
      (ap (by_replace_step s x behind) (step_here ∙ is), left_whole old new (ap length same) ∙ same)

  pub packed_place : (reason : Reason) (at : ℕ)
      → step_at (compression_of s) old place.at ≡ Dropped (record { reason = reason; at = at })
      → at ≤ header_len + length (packet_at old).payload
  packed_place reason at is =
      step_place (compression_of s) (packet_at old) x header.lies (record { reason = reason; at = at }) (step_here ∙ is)

-- ---- a fault of an item

pub judged_tlv : (p : Packet) (h : Header) (srh : Srh) (f : Fault) → LiesIn p h → length p.payload < 2 ^ 16 → nat_le p.hop_limit 1 ≡ false
    → srh ≡ srh_of h.bytes → has_bad_segments srh ≡ false → tlvs_fault h.place.at srh ≡ Some f
    → (next_segment p h.place.at (srh_of h.bytes) ≡ Refused f.reason f.at) × (f.at ≤ MAX_PACKET_LEN)
judged_tlv p h srh f lies short low is fine bad =
    let within = lies.within in
    let P : Srh → Type 0 = λ s. has_bad_segments s ≡ false in
    let Q : Srh → Type 0 = λ s. tlvs_fault h.place.at s ≡ Some f in
    let good = subst P is fine in
    let there = subst Q is bad in
    let near = tlvs_fault_within p h f lies there in
    (rw (low, good, there) refl, omega arith)
