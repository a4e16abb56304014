-- The reader at a packet's block that the grammar spells: it finds the packet, or that it does not fit.
use Rattle.std.proofs.Common.{◌≡◌, ℕ, ◌+◌, ◌^◌, ◌<◌, ◌≤◌, ◌==◌, Bool, List, [], ◌++◌, length, drop, slice_get, Option, Some, None, refl, ap, ◌∙◌, arith, length-append, inl, inr}
use Rattle.std.proofs.lemmas.Bool.{cases_Bool, le-leb, lt-leb}
use Rattle.std.proofs.lemmas.List.{append_assoc}
use Rattle.pcap_io.specs.declared.capture_head.LinkType.{LinkType}
use Rattle.pcap_io.specs.Frames.{packet_in}
use Rattle.pcap_io.specs.Numbers.{number_of, number_bytes}
use Rattle.pcap_io.proofs.CaptureNumberLemmas.{number_of_bytes, number_bytes_length}
use Rattle.pcapng_io.specs.declared.end.NgEnd.TheVariants as ends
use Rattle.pcapng_io.specs.declared.fault.NgFault.TheVariants as ng
use Rattle.pcapng_io.specs.Blocks.{type_of, filled, link_in, kept, packet_of, enhanced_in, simple_of, held, with_total, block_at, body_in}
use Rattle.pcapng_io.specs.NgReading.{NgPlace, Ends, step_with, step}
use Rattle.pcapng_io.proofs.NgSteps.{step_front}
use Rattle.pcapng_theory.specs.NgBlocks.{bytes_of_block, FitsBlock, simple_packet_block, enhanced_packet_block, enhanced_packet_fields}
use Rattle.pcapng_theory.specs.NgFrames.{held_by}
use Rattle.pcapng_theory.proofs.Fronts.{block_length}
use Rattle.pcapng_theory.proofs.BlockCases.{padded_length}
use Rattle.pcapng_theory.proofs.BlocksRead.{body_here, field_behind}
use Rattle.pcapng_theory.proofs.FrontsRead.{Seen, other_found}

-- ---- an enhanced packet

-- the fields of the block, whether its data fits or not
module _ (little : Bool) (interface upper lower captured original : ℕ) (behind : List ℕ) (captured_fits : captured < 2 ^ 32)
    (fits : FitsBlock enhanced_packet_block (enhanced_packet_fields little interface upper lower captured original behind)) where
  abbrev enhanced_body : List ℕ
  enhanced_body = enhanced_packet_fields little interface upper lower captured original behind

  abbrev enhanced_block : List ℕ
  enhanced_block = bytes_of_block little enhanced_packet_block enhanced_body

  abbrev enhanced_last : List ℕ
  enhanced_last = number_bytes little 4 (length enhanced_body + 12)

  enhanced_fields : enhanced_body ++ enhanced_last ≡ number_bytes little 4 interface ++ (number_bytes little 4 upper ++
      (number_bytes little 4 lower ++ (number_bytes little 4 captured ++ (number_bytes little 4 original ++ (behind ++ enhanced_last)))))
  enhanced_fields = simp append_assoc refl

  enhanced_8 : drop 8 enhanced_block ≡ number_bytes little 4 interface ++ (number_bytes little 4 upper ++
      (number_bytes little 4 lower ++ (number_bytes little 4 captured ++ (number_bytes little 4 original ++ (behind ++ enhanced_last)))))
  enhanced_8 = body_here little enhanced_packet_block 0 enhanced_body ∙ enhanced_fields

  enhanced_20 : drop 20 enhanced_block ≡ number_bytes little 4 captured ++ (number_bytes little 4 original ++ (behind ++ enhanced_last))
  enhanced_20 =
      let e = number_bytes little 4 original ++ (behind ++ enhanced_last) in
      let d = number_bytes little 4 captured ++ e in
      let c = number_bytes little 4 lower ++ d in
      let twelve = field_behind 8 4 [] (number_bytes little 4 interface) (number_bytes little 4 upper ++ c) enhanced_block enhanced_8
      (number_bytes_length little 4 interface) in
      let sixteen = field_behind 12 4 [] (number_bytes little 4 upper) c enhanced_block twelve (number_bytes_length little 4 upper) in
      field_behind 16 4 [] (number_bytes little 4 lower) d enhanced_block sixteen (number_bytes_length little 4 lower)

  enhanced_24 : drop 24 enhanced_block ≡ number_bytes little 4 original ++ (behind ++ enhanced_last)
  enhanced_24 =
      field_behind 20 4 [] (number_bytes little 4 captured) (number_bytes little 4 original ++ (behind ++ enhanced_last)) enhanced_block
      enhanced_20 (number_bytes_length little 4 captured)

  pub enhanced_28 : drop 28 enhanced_block ≡ behind ++ enhanced_last
  enhanced_28 =
      field_behind 24 4 [] (number_bytes little 4 original) (behind ++ enhanced_last) enhanced_block enhanced_24
      (number_bytes_length little 4 original)

  interface_at : interface < 2 ^ 32 → number_of little 4 (drop 8 enhanced_block) ≡ interface
  interface_at known = ap (number_of little 4) enhanced_8 ∙ number_of_bytes little 4 interface _ known

  captured_at : number_of little 4 (drop 20 enhanced_block) ≡ captured
  captured_at = ap (number_of little 4) enhanced_20 ∙ number_of_bytes little 4 captured _ captured_fits

  original_at : original < 2 ^ 32 → number_of little 4 (drop 24 enhanced_block) ≡ original
  original_at original_fits = ap (number_of little 4) enhanced_24 ∙ number_of_bytes little 4 original _ original_fits

  pub enhanced_len : length enhanced_body ≡ 20 + length behind
  enhanced_len =
      let a = number_bytes_length little 4 interface in
      let b = number_bytes_length little 4 upper in
      let c = number_bytes_length little 4 lower in
      let d = number_bytes_length little 4 captured in
      let e = number_bytes_length little 4 original in
      simp length-append (omega (arith, a, b, c, d, e))

  enhanced_held : (interfaces : List Seen) → held little interfaces (type_of enhanced_packet_block) enhanced_block
      ≡ enhanced_in little interfaces enhanced_block
  unfolding type_of
  enhanced_held interfaces = refl

  enhanced_at_front : (interfaces : List Seen) (rest : List ℕ) → block_at little interfaces (enhanced_block ++ rest)
      ≡ with_total (length enhanced_body + 12) (enhanced_in little interfaces enhanced_block)
  enhanced_at_front interfaces rest =
      let len = enhanced_len in
      other_found little enhanced_packet_block enhanced_body rest fits interfaces (λ is. absurd (omega arith)) (omega arith)
      ∙ ap (λ r. with_total (length enhanced_body + 12) r) (enhanced_held interfaces)

  enhanced_long : (p : NgPlace) (interfaces : List Seen) (bytes : List ℕ) (total : ℕ) → length behind < captured
      → step_with p bytes (with_total total (enhanced_in little interfaces enhanced_block))
      ≡ Ends (ends.Faulty (ng.NgBlock (p.blocks + 1)))
  unfolding enhanced_in
  enhanced_long p interfaces bytes total past =
      let len = enhanced_len in
      let all = block_length little enhanced_packet_block enhanced_body in
      let room : length enhanced_block < 32 + filled captured = omega (arith, len, all) in
      rw (captured_at, lt-leb (32 + filled captured) (length enhanced_block) room) refl

  enhanced_there : (interfaces : List Seen) → interface < 2 ^ 32 → original < 2 ^ 32 → padded_length captured ≤ length behind
      → enhanced_in little interfaces enhanced_block ≡ packet_of (slice_get interfaces interface) 28 captured original
  unfolding enhanced_in
  enhanced_there interfaces known original_fits there =
      let len = enhanced_len in
      let all = block_length little enhanced_packet_block enhanced_body in
      let room : 32 + filled captured ≤ length enhanced_block = omega (arith, len, all) in
      rw (captured_at, le-leb (32 + filled captured) (length enhanced_block) room, interface_at known, original_at original_fits) refl

  pub enhanced_long_read : (p : NgPlace) (rest : List ℕ) → p.little ≡ little → length behind < captured
      → step p (enhanced_block ++ rest) ≡ Ends (ends.Faulty (ng.NgBlock (p.blocks + 1)))
  enhanced_long_read p rest order past =
      step_front p (enhanced_block ++ rest) _ (ap (λ (o : Bool). block_at o p.interfaces (enhanced_block ++ rest)) order
      ∙ enhanced_at_front p.interfaces rest)
      ∙ enhanced_long p p.interfaces (enhanced_block ++ rest) (length enhanced_body + 12) past

  pub enhanced_read : (interfaces : List Seen) (rest : List ℕ) (found : Option Seen) → interface < 2 ^ 32 → original < 2 ^ 32
      → padded_length captured ≤ length behind → slice_get interfaces interface ≡ found → block_at little interfaces (enhanced_block ++ rest)
      ≡ with_total (length enhanced_body + 12) (packet_of found 28 captured original)
  enhanced_read interfaces rest found known original_fits there is =
      enhanced_at_front interfaces rest
      ∙ ap (λ r. with_total (length enhanced_body + 12) r) (enhanced_there interfaces known original_fits there
      ∙ ap (λ o. packet_of o 28 captured original) is)

-- ---- a simple packet

module _ (little : Bool) (original : ℕ) (behind : List ℕ) (original_fits : original < 2 ^ 32)
    (fits : FitsBlock simple_packet_block (number_bytes little 4 original ++ behind)) where
  abbrev simple_body : List ℕ
  simple_body = number_bytes little 4 original ++ behind

  abbrev simple_block : List ℕ
  simple_block = bytes_of_block little simple_packet_block simple_body

  abbrev simple_last : List ℕ
  simple_last = number_bytes little 4 (length simple_body + 12)

  simple_8 : drop 8 simple_block ≡ number_bytes little 4 original ++ (behind ++ simple_last)
  simple_8 = body_here little simple_packet_block 0 simple_body ∙ append_assoc (number_bytes little 4 original) behind simple_last

  pub simple_12 : drop 12 simple_block ≡ behind ++ simple_last
  simple_12 = field_behind 8 4 [] (number_bytes little 4 original) (behind ++ simple_last) simple_block simple_8
      (number_bytes_length little 4 original)

  simple_original : number_of little 4 (drop 8 simple_block) ≡ original
  simple_original = ap (number_of little 4) simple_8 ∙ number_of_bytes little 4 original _ original_fits

  pub simple_len : length simple_body ≡ 4 + length behind
  simple_len = let a = number_bytes_length little 4 original in simp length-append (omega (arith, a))

  simple_held : (interfaces : List Seen) → held little interfaces (type_of simple_packet_block) simple_block
      ≡ simple_of (slice_get interfaces 0) (number_of little 4 (drop 8 simple_block)) simple_block
  unfolding type_of
  simple_held interfaces = refl

  simple_at_front : (interfaces : List Seen) (rest : List ℕ) → block_at little interfaces (simple_block ++ rest)
      ≡ with_total (length simple_body + 12) (simple_of (slice_get interfaces 0) original simple_block)
  simple_at_front interfaces rest =
      let len = simple_len in
      other_found little simple_packet_block simple_body rest fits interfaces (λ is. absurd (omega arith)) (omega arith)
      ∙ ap (λ r. with_total (length simple_body + 12) r) (simple_held interfaces)
      ∙ ap (λ (n : ℕ). with_total (length simple_body + 12) (simple_of (slice_get interfaces 0) n simple_block)) simple_original

  simple_none : (p : NgPlace) (bytes : List ℕ) (total : ℕ) → step_with p bytes (with_total total (simple_of None original simple_block))
      ≡ Ends (ends.Faulty (ng.NgInterface (p.blocks + 1)))
  unfolding simple_of
  simple_none p bytes total = refl

  simple_long : (p : NgPlace) (i : Seen) (bytes : List ℕ) (total : ℕ) → length behind < kept i.snaplen original
      → step_with p bytes (with_total total (simple_of (Some i) original simple_block))
      ≡ Ends (ends.Faulty (ng.NgBlock (p.blocks + 1)))
  unfolding simple_of
  simple_long p i bytes total past =
      let len = simple_len in
      let all = block_length little simple_packet_block simple_body in
      let n = kept i.snaplen original in
      let room : length simple_block < 16 + filled n = omega (arith, len, all) in
      rw (lt-leb (16 + filled n) (length simple_block) room) refl

  simple_there : (i : Seen) → padded_length (kept i.snaplen original) ≤ length behind
      → simple_of (Some i) original simple_block ≡ packet_of (Some i) 12 (kept i.snaplen original) original
  unfolding simple_of
  simple_there i there =
      let len = simple_len in
      let all = block_length little simple_packet_block simple_body in
      let n = kept i.snaplen original in
      let room : 16 + filled n ≤ length simple_block = omega (arith, len, all) in
      rw (le-leb (16 + filled n) (length simple_block) room) refl

  simple_step : (p : NgPlace) (rest : List ℕ) (found : Option Seen) → p.little ≡ little → slice_get p.interfaces 0 ≡ found
      → step p (simple_block ++ rest)
      ≡ step_with p (simple_block ++ rest) (with_total (length simple_body + 12) (simple_of found original simple_block))
  simple_step p rest found order is =
      step_front p (simple_block ++ rest) _ (ap (λ (o : Bool). block_at o p.interfaces (simple_block ++ rest)) order
      ∙ simple_at_front p.interfaces rest
      ∙ ap (λ (o : Option Seen). with_total (length simple_body + 12) (simple_of o original simple_block)) is)

  pub simple_none_read : (p : NgPlace) (rest : List ℕ) → p.little ≡ little → slice_get p.interfaces 0 ≡ None
      → step p (simple_block ++ rest) ≡ Ends (ends.Faulty (ng.NgInterface (p.blocks + 1)))
  simple_none_read p rest order is =
      simple_step p rest None order is ∙ simple_none p (simple_block ++ rest) (length simple_body + 12)

  pub simple_long_read : (p : NgPlace) (rest : List ℕ) (i : Seen) → p.little ≡ little → slice_get p.interfaces 0 ≡ Some i
      → length behind < kept i.snaplen original
      → step p (simple_block ++ rest) ≡ Ends (ends.Faulty (ng.NgBlock (p.blocks + 1)))
  simple_long_read p rest i order is past =
      simple_step p rest (Some i) order is ∙ simple_long p i (simple_block ++ rest) (length simple_body + 12) past

  pub simple_read : (interfaces : List Seen) (rest : List ℕ) (i : Seen) → slice_get interfaces 0 ≡ Some i
      → padded_length (kept i.snaplen original) ≤ length behind → block_at little interfaces (simple_block ++ rest)
      ≡ with_total (length simple_body + 12) (packet_of (Some i) 12 (kept i.snaplen original) original)
  simple_read interfaces rest i is there =
      simple_at_front interfaces rest
      ∙ ap (λ o. with_total (length simple_body + 12) (simple_of o original simple_block)) is
      ∙ ap (λ r. with_total (length simple_body + 12) r) (simple_there i there)

-- ---- what packets hold

held_link : (link : LinkType) (captured : List ℕ) → body_in (Some link) captured ≡ packet_in link captured
held_link link captured = refl

pub held_same : (link_type : ℕ) (captured : List ℕ) → body_in (link_in link_type) captured ≡ held_by link_type captured
unfolding packet_in
held_same link_type captured = elim (cases_Bool (link_type == 1)) [
  | inl a ↦ rw a refl
  | inr a ↦ rw a elim (cases_Bool (link_type == 101)) [
    | inl b ↦ rw b refl
    | inr b ↦ rw b elim (cases_Bool (link_type == 229)) [
      | inl c ↦ rw c refl
      | inr c ↦ rw c refl
    ]
  ]
]
