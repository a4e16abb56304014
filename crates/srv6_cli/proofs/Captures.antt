-- The capture that a run of `walk` writes.
use Rattle.std.proofs.Common.{◌≡◌, inl, inr, ℕ, ◌+◌, ◌≤◌, true, false, List, [], ◌∷◌, ◌++◌, nat_eq, take, Contains, Option, None, Some, Result, Ok, refl, sym, ap, ◌∙◌, subst, arith}
use Rattle.std.specs.List.{flat_map}
use Rattle.std.proofs.lemmas.Bool.{eq-eqb, ne_eqb}
use Rattle.pcap_io.specs.declared.frame.Body.{Body}
use Rattle.pcap_io.specs.declared.frame.Body.TheVariants as bodies
use Rattle.pcap_io.specs.declared.frame.Frame.{Frame}
use Rattle.pcap_io.specs.Capture.{written_head_bytes}
use Rattle.srv6_rules.specs.declared.family.Family.{Family}
use Rattle.srv6_rules.specs.declared.family.Family.TheVariants as families
use Rattle.srv6_rules.specs.declared.policy.Policy.{Policy}
use Rattle.srv6_rules.specs.Packet.{Content, V6, V4, Unreadable, most_len}
use Rattle.srv6_rules.proofs.PublicLaws.{read_as_family4, read_as_family6}
use Rattle.net_model.specs.Network.{Network}
use Rattle.net_model.proofs.PublicLaws.{contains_cases, contains_none}
use Rattle.walk_rules.specs.Walk.{Stage}
use Rattle.intent_reader.specs.declared.intent.Intent.{Intent}
use Rattle.leg_table.specs.Realizes.{IsInner}
use Rattle.path_compiler.specs.declared.compiled.Compiled.{Compiled}
use Rattle.packet_walk.specs.Schedule.{Coming, Taken, steps_of}
use Rattle.srx_edge.specs.Sinks.{sent}
use Rattle.srx_edge.proofs.PublicLaws.{sent_sent}
use Rattle.command_output.specs.declared.refusal.Refusal.{Refusal}
use Rattle.command_output.specs.OutputLines.{refusal_line}
use Rattle.command_output.specs.Outputs.{after, ended_by}
use Rattle.command_output.specs.OutputPieces.{Piece, ForOut, ForErr, Sinks, bytes_for_out, gone}
use Rattle.command_inputs.specs.declared.input_packets.Packets.{Packets}
use Rattle.command_inputs.specs.InputFrames.{AreFrom}
use Rattle.command_inputs.specs.InputPackets.{fault_of, packets_in, reading_of}
use Rattle.command_inputs.proofs.PublicLaws.{numbered_packets}
use Rattle.run_commands.specs.declared.enters.Entrant.{Entrant}
use Rattle.run_commands.specs.WrittenCapture.{frames_of}
use Rattle.run_commands.specs.Admission.{Admission, entrant_of, coming_if_admitted, coming_of_frame, comings_of_frames}
use Rattle.run_commands.specs.Scheduled.{coming, frame_of_stage, pieces_of_stages, frames_sent}
use Rattle.run_commands.proofs.PublicLaws.{driven_mixes}
use Rattle.walk_commands.specs.WalkCommand.{Enters, WalkWords, at_headend, admission_at_headend, admission_of, headend_of, of_content, policy_of, walk_at_headend, walk_output, walked}
use Rattle.srv6_cli.specs.Captured.{ReadsAs, outer_for, stages_in}

-- ---- what `out` receives

-- the bytes of pieces for `out`
gone_out : (pieces : List Piece) (sinks : Sinks) → (gone pieces sinks).out ≡ sent (bytes_for_out pieces) sinks.out
gone_out [] sinks = refl
gone_out (ForOut bytes ∷ more) sinks =
    gone_out more (record sinks { out = sent bytes sinks.out }) ∙ sent_sent (bytes_for_out more) bytes sinks.out
gone_out (ForErr bytes ∷ more) sinks = gone_out more (record sinks { err = sent bytes sinks.err })

-- of the pieces of stages, before a last line, these are the stages' frames
stages_out : (net : Network) (stages : List Taken) (last : List ℕ)
    → bytes_for_out (pieces_of_stages net stages ++ ForErr last ∷ []) ≡ flat_map frame_of_stage stages
stages_out net [] last = refl
stages_out net (t ∷ more) last = ap (λ (bytes : List ℕ). frame_of_stage t ++ bytes) (stages_out net more last)

-- with the head in front of them
ended_out : (net : Network) (head lines : List ℕ) (stages : List Taken) (end : Option Refusal)
    → bytes_for_out (ended_by (ForOut head ∷ ForErr lines ∷ pieces_of_stages net stages) end).pieces
    ≡ head ++ flat_map frame_of_stage stages
ended_out net head lines stages None = ap (λ (bytes : List ℕ). head ++ bytes) (stages_out net stages [])
ended_out net head lines stages (Some refusal) =
    ap (λ (bytes : List ℕ). head ++ bytes) (stages_out net stages (refusal_line refusal))

pub captured_all : (net : Network) (intent : Intent) (c : Compiled) (words : WalkWords) (input : List ℕ) (packets : Packets)
    (old new : Sinks) → packets_in input ≡ Ok packets
    → new ≡ gone (walk_output net (headend_of net intent c) words.choices words.schedule input).pieces old
    → new.out ≡ sent (written_head_bytes ++ flat_map frame_of_stage (stages_in net (headend_of net intent c) words packets)) old.out
captured_all net intent c words input packets old new read went =
    let pieces : List Piece = (walk_output net (headend_of net intent c) words.choices words.schedule input).pieces in
    let same : bytes_for_out pieces ≡ bytes_for_out (walked net (headend_of net intent c) words.choices words.schedule packets).pieces =
    ap (λ (r : Result Packets Refusal).
    bytes_for_out (after r (walked net (headend_of net intent c) words.choices words.schedule)).pieces) read in
    ap (λ (s : Sinks). s.out) went
    ∙ gone_out pieces old
    ∙ ap (λ (bytes : List ℕ). sent bytes old.out)
    (same ∙ ended_out net written_head_bytes _ (stages_in net (headend_of net intent c) words packets) (fault_of (reading_of packets)))

-- ---- the walk of a packet of the input

-- a frame's packet of the family of inner packets is treated as what it reads as
read_there : (policy : Policy) (family : Family) (body : Body) (inner : Content) → IsInner family inner → ReadsAs body inner
    → at_headend policy family body ≡ of_content policy inner
read_there policy families.V6 (bodies.V6 bytes) inner is reads = ap (of_content policy) reads
read_there policy families.V4 (bodies.V4 bytes) inner is reads = ap (of_content policy) reads
read_there policy families.V6 (bodies.V4 bytes) (V6 p) is reads =
    let other : families.V4 ≡ families.V6 = read_as_family6 families.V4 (take most_len bytes) p reads in cc
read_there policy families.V6 (bodies.V4 bytes) (V4 p) is reads = absurd is
read_there policy families.V6 (bodies.V4 bytes) (Unreadable kept reason) is reads = absurd is
read_there policy families.V4 (bodies.V6 bytes) (V4 p) is reads =
    let other : families.V6 ≡ families.V4 = read_as_family4 families.V6 (take most_len bytes) p reads in cc
read_there policy families.V4 (bodies.V6 bytes) (V6 p) is reads = absurd is
read_there policy families.V4 (bodies.V6 bytes) (Unreadable kept reason) is reads = absurd is
read_there policy family bodies.ShortFrame inner is reads = absurd reads
read_there policy family bodies.NotIp inner is reads = absurd reads

-- frames numbered from n on have numbers that are no lower
number_from : (n : ℕ) (frames : List Frame) (frame : Frame) → AreFrom n frames → Contains frames frame → n ≤ frame.number
number_from n [] frame from held = absurd (contains_none frame held)
number_from n (g ∷ more) frame from held =
    elim (contains_cases g more frame held) [
      | inl same ↦ let number : n ≡ frame.number = sym from.0 ∙ ap (λ (f : Frame). f.number) same in omega (arith, number)
      | inr later ↦ let rest = number_from (n + 1) more frame from.1 later in omega (arith, rest)
    ]

module _ (net : Network) (choices : List ℕ) (entry : Body → Admission) where
  -- a packet of another number is passed over
  passed : (number other : ℕ) (o : Option Entrant) (rest : List Coming) → nat_eq number other ≡ false
      → steps_of number (coming_if_admitted net choices other o ++ rest) ≡ steps_of number rest
  passed number other None rest differs = refl
  passed number other (Some comes) rest differs = rw differs refl

  -- the steps of a frame's packet that comes with a walk
  found : (frame : Frame) (walk : List Stage) → coming_of_frame net choices entry frame ≡ coming frame.number walk
      → (n : ℕ) (frames : List Frame) → AreFrom n frames → Contains frames frame
      → steps_of frame.number (comings_of_frames net choices entry frames) ≡ walk
  found frame walk comes n [] from held = absurd (contains_none frame held)
  found frame walk comes n (g ∷ more) from held =
      elim (contains_cases g more frame held) [
        | inl same ↦
            let itself : nat_eq frame.number frame.number ≡ true = eq-eqb frame.number frame.number refl in
            let rest : List Coming = comings_of_frames net choices entry more in
            subst (λ (f : Frame). steps_of frame.number (coming_of_frame net choices entry f ++ rest) ≡ walk) (sym same)
            (subst (λ (cs : List Coming). steps_of frame.number (cs ++ rest) ≡ walk) (sym comes) (rw itself refl))
        | inr later ↦
            let above = number_from (n + 1) more frame from.1 later in
            let first = from.0 in
            let differs : nat_eq frame.number g.number ≡ false =
            ne_eqb frame.number g.number (λ same. omega (arith, above, first, same)) in
            passed frame.number g.number (entrant_of (entry g.body)) (comings_of_frames net choices entry more) differs
            ∙ found frame walk comes (n + 1) more from.1 later
      ]

pub captured_each : (net : Network) (intent : Intent) (c : Compiled) (words : WalkWords) (packets : Packets) (frame : Frame)
    (inner : Content) → IsInner intent.inner inner → of_content (policy_of net intent c) inner ≡ Enters (outer_for net intent c inner)
    → Contains (reading_of packets).frames frame → ReadsAs frame.body inner
    → frames_sent frame.number (stages_in net (headend_of net intent c) words packets)
    ≡ frames_of frame.number (walk_at_headend net intent words.choices (outer_for net intent c inner))
captured_each net intent c words packets frame inner is enters held reads =
    let entry : Body → Admission = admission_at_headend (headend_of net intent c) in
    let walk : List Stage = walk_at_headend net intent words.choices (outer_for net intent c inner) in
    let comes : coming_of_frame net words.choices entry frame ≡ coming frame.number walk =
    ap (λ at. coming_if_admitted net words.choices frame.number (entrant_of (admission_of intent.headend at)))
    (read_there (policy_of net intent c) intent.inner frame.body inner is reads ∙ enters) in
    driven_mixes net words.choices entry packets frame.number words.schedule
    ∙ ap (frames_of frame.number)
    (found net words.choices entry frame walk comes 1 (reading_of packets).frames (numbered_packets packets) held)
