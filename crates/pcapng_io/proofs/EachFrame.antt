-- What holds of the packet of each block holds of each frame of a file.
use Rattle.std.proofs.Common.{◌≡◌, ℕ, zero, suc, ◌+◌, ◌<◌, ◌≤◌, ◌^◌, ◌==◌, nat_lt, Bool, true, false, List, [], ◌∷◌, take, drop, Option, Some, None, Result, Ok, Err, All, refl, sym, ap, ◌∙◌, subst, arith, inl, inr}
use Rattle.std.specs.Prelude.{if◌then◌else◌}
use Rattle.std.proofs.lemmas.Bool.{cases_Bool, eqb-false}
use Rattle.std.proofs.lemmas.List.Elements.{All-nil, All-cons, All-append, All-drop, All-take}
use Rattle.pcap_io.specs.declared.frame.Body.TheVariants.{ShortFrame}
use Rattle.pcap_io.specs.declared.frame.Frame.{Frame}
use Rattle.pcap_io.specs.declared.capture_head.LinkType.{LinkType}
use Rattle.pcap_io.specs.declared.numbers.TheConstants.{MAX_FRAMES}
use Rattle.pcapng_io.specs.declared.ng_block.BlockContent.{BlockContent}
use Rattle.pcapng_io.specs.declared.ng_block.BlockContent.TheVariants as blocks
use Rattle.pcapng_io.specs.declared.ng_block.BlockPacket.{BlockPacket}
use Rattle.pcapng_io.specs.declared.ng_block.WholeBlock.{WholeBlock}
use Rattle.pcapng_io.specs.declared.end.NgEnd.TheVariants.{Faulty}
use Rattle.pcapng_io.specs.declared.fault.BlockFault.{BlockFault}
use Rattle.pcapng_io.specs.Blocks.{body_in, body_of}
use Rattle.pcapng_io.specs.NgReading.{NgPlace, NgStep, Ends, Goes, NgReading, fault_in, after, frame_of, step_over, step, start, end_at, blocks_of, reading, ng_capture_of}
use Rattle.pcapng_io.proofs.NgSteps.{front_of, step_front, blocks_of_ends, blocks_of_goes}

abbrev AreBytes : List ℕ → Type 0
AreBytes bytes = All (λ byte. byte < 2 ^ 8) bytes

module _ (P : Frame → Type 0)
    (each : (p : NgPlace) (packet : BlockPacket) (block : List ℕ) → p.packets < MAX_FRAMES → AreBytes block → P (frame_of p packet block))
  where
    abbrev Holds : NgPlace → List Frame → Type 0
    Holds next frames = All P frames × (next.packets ≤ MAX_FRAMES)

    hold_none : (p next : NgPlace) (frames : List Frame) → p.packets ≤ MAX_FRAMES → [] ≡ frames → p.packets ≡ next.packets
        → Holds next frames
    hold_none p next frames few none same = (subst (λ (fs : List Frame). All P fs) none (All-nil P), omega (arith, few, same))

    hold_over : (p next : NgPlace) (bytes : List ℕ) (total n : ℕ) (b : BlockContent) (frames : List Frame) → p.packets ≤ MAX_FRAMES
        → AreBytes bytes → step_over p bytes total b ≡ Goes frames next n → Holds next frames
    hold_over p next bytes total n (blocks.Section little) frames few h is =
        let none : [] ≡ frames = cc in
        let place : after p (blocks.Section little) ≡ next = cc in
        hold_none p next frames few none (ap (λ (q : NgPlace). q.packets) place)
    hold_over p next bytes total n (blocks.Interface i) frames few h is =
        let none : [] ≡ frames = cc in
        let place : after p (blocks.Interface i) ≡ next = cc in
        hold_none p next frames few none (ap (λ (q : NgPlace). q.packets) place)
    hold_over p next bytes total n blocks.Skipped frames few h is =
        let none : [] ≡ frames = cc in
        let place : after p blocks.Skipped ≡ next = cc in
        hold_none p next frames few none (ap (λ (q : NgPlace). q.packets) place)
    hold_over p next bytes total n (blocks.Packet packet) frames few h is = elim (cases_Bool (p.packets == MAX_FRAMES)) [
      | inl many ↦ absurd (let found = rw many at is in cc)
      | inr other ↦
          let found = rw other at is in
          let one : frame_of p packet (take total bytes) ∷ [] ≡ frames = cc in
          let place : after p (blocks.Packet packet) ≡ next = cc in
          let count : p.packets + 1 ≡ next.packets = ap (λ (q : NgPlace). q.packets) place in
          let not = eqb-false p.packets MAX_FRAMES other in
          let below : p.packets < MAX_FRAMES = omega (arith, few, not) in (
            subst (λ (fs : List Frame). All P fs) one
                (All-cons P (frame_of p packet (take total bytes)) [] (each p packet (take total bytes) below
                (All-take (λ byte. byte < 2 ^ 8) total bytes h))
                (All-nil P)),
            omega (arith, below, count),
          )
    ]

    hold_step : (p next : NgPlace) (bytes : List ℕ) (frames : List Frame) (total : ℕ) (r : Result (Option WholeBlock) BlockFault)
        → p.packets ≤ MAX_FRAMES → AreBytes bytes → front_of p bytes ≡ r → step p bytes ≡ Goes frames next total → Holds next frames
    hold_step p next bytes frames total (Ok None) few h is goes =
        let ends : Ends (end_at p bytes) ≡ Goes frames next total = sym (step_front p bytes (Ok None) is) ∙ goes in
        absurd (cc)
    hold_step p next bytes frames total (Err fault) few h is goes =
        let ends : Ends (Faulty (fault_in (p.blocks + 1) fault)) ≡ Goes frames next total = sym (step_front p bytes (Err fault) is)
        ∙ goes in
        absurd (cc)
    hold_step p next bytes frames total (Ok (Some whole)) few h is goes =
        hold_over p next bytes whole.total total whole.block frames few h (sym (step_front p bytes (Ok (Some whole)) is) ∙ goes)

    each_step : (most : ℕ) (p : NgPlace) (bytes : List ℕ) (s : NgStep) → p.packets ≤ MAX_FRAMES → AreBytes bytes → step p bytes ≡ s
        → ((q : NgPlace) (rest : List ℕ) → q.packets ≤ MAX_FRAMES → AreBytes rest → All P (blocks_of most q rest).frames)
        → All P (blocks_of (suc most) p bytes).frames
    each_step most p bytes (Ends end) few h is again =
        subst (λ (r : NgReading). All P r.frames) (sym (blocks_of_ends most p bytes end is)) (All-nil P)
    each_step most p bytes (Goes frames next total) few h is again =
        let holds = hold_step p next bytes frames total (front_of p bytes) few h refl is in
        subst (λ (r : NgReading). All P r.frames) (sym (blocks_of_goes most p next bytes frames total is))
        (All-append P frames (blocks_of most next (drop total bytes)).frames holds.0
        (again next (drop total bytes) holds.1 (All-drop (λ byte. byte < 2 ^ 8) total bytes h)))

    each_blocks : (most : ℕ) (p : NgPlace) (bytes : List ℕ) → p.packets ≤ MAX_FRAMES → AreBytes bytes
        → All P (blocks_of most p bytes).frames
    unfolding blocks_of
    each_blocks zero p bytes few h = All-nil P
    each_blocks (suc most) p bytes few h =
        each_step most p bytes (step p bytes) few h refl (λ q rest less more. each_blocks most q rest less more)

    pub each_frame : (bytes : List ℕ) → AreBytes bytes → All P (ng_capture_of bytes).frames
    unfolding reading
    each_frame bytes h = each_blocks _ start bytes (omega arith) h

-- ---- by what a frame holds: the bytes of a packet, or none where some were left out

module _ (P : Frame → Type 0) (short : (n : ℕ) → n < MAX_FRAMES → P (record { number = n + 1; body = ShortFrame }))
    (held : (n : ℕ) (link : Option LinkType) (captured : List ℕ) → n < MAX_FRAMES → AreBytes captured
    → P (record { number = n + 1; body = body_in link captured }))
  where
    of_body : (n : ℕ) (packet : BlockPacket) (block : List ℕ) → n < MAX_FRAMES → AreBytes block
        → P (record { number = n + 1; body = body_of packet block })
    unfolding body_of
    of_body n packet block few h = by_length (nat_lt packet.captured packet.original)
      where
        by_length : (left_out : Bool) → P (record {
          number = n + 1;
          body = if left_out then ShortFrame else body_in packet.link (take packet.captured (drop packet.start block));
        })
        by_length true = short n few
        by_length false = held n packet.link (take packet.captured (drop packet.start block)) few
            (All-take (λ byte. byte < 2 ^ 8) packet.captured (drop packet.start block)
            (All-drop (λ byte. byte < 2 ^ 8) packet.start block h))

    pub each_held : (bytes : List ℕ) → AreBytes bytes → All P (ng_capture_of bytes).frames
    each_held bytes h = each_frame P (λ p packet block few bytes. of_body p.packets packet block few bytes) bytes h
