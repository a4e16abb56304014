-- The frames and the line that a schedule gives each packet.
use Rattle.std.proofs.Common.{◌≡◌, ℕ, ◌+◌, ◌<◌, false, nat_eq, List, [], ◌∷◌, ◌++◌, length, map, Option, Some, None, refl, sym, ap, ◌∙◌, append-nil, arith, subst}
use Rattle.std.specs.Prelude.{All}
use Rattle.std.specs.List.{flat_map, IsDistinct, AllByRecursion}
use Rattle.std.proofs.lemmas.Bool.{ne_eqb}
use Rattle.std.proofs.lemmas.List.Elements.{All-append, All-cons, All-nil}
use Rattle.pcap_io.specs.declared.frame.Body.{Body}
use Rattle.pcap_io.specs.declared.frame.Frame.{Frame}
use Rattle.srv6_rules.specs.Packet.{Content}
use Rattle.net_model.specs.Network.{Network}
use Rattle.walk_rules.specs.declared.place.Place.{Place}
use Rattle.walk_rules.specs.Walk.{Stage, walk_of, choice_at, end_of}
use Rattle.packet_walk.specs.Schedule.{Coming, Taken, all_of, scheduled, steps_of}
use Rattle.packet_walk.proofs.PublicLaws.{stages_scheduled}
use Rattle.command_inputs.specs.declared.input_packets.Packets.{Packets}
use Rattle.run_commands.specs.WrittenCapture.{frame_of_gave, frames_of}
use Rattle.run_commands.specs.declared.enters.Entrant.{Entrant}
use Rattle.run_commands.specs.Admission.{Admission, entrant_of, coming_if_admitted, coming_of_frame, comings_of_frames}
use Rattle.command_inputs.specs.InputFrames.{AreFrom}
use Rattle.command_inputs.specs.InputPackets.{reading_of}
use Rattle.command_inputs.proofs.PublicLaws.{numbered_packets}
use Rattle.run_commands.specs.Scheduled.{coming, frame_of_stage, line_of_stage, line_of_walk, pieces_of_stages, frames_sent}
use Rattle.run_commands.specs.ScheduledTerms.{lines_told}
use Rattle.walk_rules.specs.declared.limits.TheConstants.{MAX_STAGES}
use Rattle.command_output.specs.OutputLines.{packet_line}
use Rattle.command_output.specs.OutputPieces.{bytes_for_err, bytes_for_out}
use Rattle.run_commands.proofs.Scheduling.{first_step}

-- the frames of all of a packet's stages are those of its walk
frames_all : (number : ℕ) (steps : List Stage) → flat_map frame_of_stage (all_of number steps) ≡ frames_of number steps
frames_all number [] = refl
frames_all number (s ∷ behind) = ap (λ (bytes : List ℕ). frame_of_gave number s.gave ++ bytes) (frames_all number behind)

frames_sent_law : (number : ℕ) (schedule : List ℕ) (comings : List Coming) → IsDistinct nat_eq (map (λ (c : Coming). c.number) comings)
    → frames_sent number (scheduled schedule comings) ≡ frames_of number (steps_of number comings)
frames_sent_law number schedule comings apart =
    ap (λ (stages : List Taken). flat_map frame_of_stage stages) (stages_scheduled number schedule comings apart)
    ∙ frames_all number (steps_of number comings)

-- the bytes for `out` of the pieces of stages are their frames, and those for `err` their lines

module _ (net : Network) where
  pub out_of_stages : (stages : List Taken) → bytes_for_out (pieces_of_stages net stages) ≡ flat_map frame_of_stage stages
  out_of_stages [] = refl
  out_of_stages (t ∷ more) = ap (λ (bytes : List ℕ). frame_of_stage t ++ bytes) (out_of_stages more)

  pub err_of_stages : (stages : List Taken) → bytes_for_err (pieces_of_stages net stages) ≡ flat_map (line_of_stage net) stages
  err_of_stages [] = refl
  err_of_stages (t ∷ more) = ap (λ (bytes : List ℕ). line_of_stage net t ++ bytes) (err_of_stages more)

  -- the lines of all of a packet's stages are the one of its walk
  lines_all : (number : ℕ) (steps : List Stage) → flat_map (line_of_stage net) (all_of number steps) ≡ line_of_walk net number steps
  lines_all number [] = refl
  lines_all number (s ∷ []) = append-nil (packet_line net number (end_of net (s ∷ [])))
  lines_all number (s ∷ t ∷ behind) = lines_all number (t ∷ behind)

  lines_told_law : (number : ℕ) (schedule : List ℕ) (comings : List Coming) → IsDistinct nat_eq (map (λ (c : Coming). c.number) comings)
      → lines_told net number (scheduled schedule comings) ≡ line_of_walk net number (steps_of number comings)
  lines_told_law number schedule comings apart =
      ap (λ (stages : List Taken). flat_map (line_of_stage net) stages) (stages_scheduled number schedule comings apart)
      ∙ lines_all number (steps_of number comings)

  -- a walk has a stage
  walk_steps : (number : ℕ) (place : Place) (content : Content) (pick : ℕ → ℕ)
      → All (λ (c : Coming). 0 < length c.steps) (coming number (walk_of MAX_STAGES net (Some place) content pick 0))
  walk_steps number place content pick =
      All-cons (λ (c : Coming). 0 < length c.steps)
      (record { number = number; steps = walk_of MAX_STAGES net (Some place) content pick 0 }) []
      (subst (λ (steps : List Stage). 0 < length steps) (sym (first_step net number place content pick)) (omega arith))
      (All-nil (λ (c : Coming). 0 < length c.steps))

-- so each packet of frames has, where each frame's packet has
all_walk : (packets : Frame → List Coming) → ((frame : Frame) → All (λ (c : Coming). 0 < length c.steps) (packets frame))
    → (frames : List Frame) → All (λ (c : Coming). 0 < length c.steps) (flat_map packets frames)
all_walk packets each [] = All-nil (λ (c : Coming). 0 < length c.steps)
all_walk packets each (frame ∷ more) =
    All-append (λ (c : Coming). 0 < length c.steps) (packets frame) (flat_map packets more) (each frame) (all_walk packets each more)

-- so the packets of frames differ in their numbers, where each frame has one at most

abbrev IsOne : (Frame → List Coming) → Type 1
IsOne packets = (frame : Frame) (P : List Coming → Type 0) → P [] → ((steps : List Stage) → P (coming frame.number steps))
    → P (packets frame)

abbrev numbers : List Coming → List ℕ
numbers comings = map (λ (c : Coming). c.number) comings

module _ (packets : Frame → List Coming) (one : IsOne packets) where
  above : (m n : ℕ) → m < n → (frames : List Frame) → AreFrom n frames
      → AllByRecursion (λ y. nat_eq m y ≡ false) (numbers (flat_map packets frames))
  above m n less [] from = tt
  above m n less (frame ∷ more) from =
      let rest = above m (n + 1) (omega (arith, less)) more from.1 in
      one frame (λ cs. AllByRecursion (λ y. nat_eq m y ≡ false) (numbers (cs ++ flat_map packets more))) rest
      (λ steps. (ne_eqb m frame.number (λ same. omega (arith, less, from.0, same)), rest))

  apart : (n : ℕ) (frames : List Frame) → AreFrom n frames → IsDistinct nat_eq (numbers (flat_map packets frames))
  unfolding IsDistinct
  apart n [] from = tt
  apart n (frame ∷ more) from =
      let rest = apart (n + 1) more from.1 in
      one frame (λ cs. IsDistinct nat_eq (numbers (cs ++ flat_map packets more))) rest
      (λ steps. (above frame.number (n + 1) (omega (arith, from.0)) more from.1, rest))

-- of packets that enter

module _ (net : Network) (choices : List ℕ) (entry : Body → Admission) where
  comes_one : (number : ℕ) (comes : Option Entrant) (P : List Coming → Type 0)
      → P [] → ((steps : List Stage) → P (coming number steps)) → P (coming_if_admitted net choices number comes)
  comes_one number None P none some = none
  comes_one number (Some comes) P none some = some _

  comes_steps : (number : ℕ) (comes : Option Entrant) → All (λ (c : Coming). 0 < length c.steps) (coming_if_admitted net choices number comes)
  comes_steps number None = All-nil (λ (c : Coming). 0 < length c.steps)
  comes_steps number (Some comes) = walk_steps net number comes.place comes.content (choice_at choices)

  module _ (packets : Packets) where
    abbrev comings : List Coming
    comings = comings_of_frames net choices entry (reading_of packets).frames

    driven_apart : IsDistinct nat_eq (numbers comings)
    driven_apart = apart (coming_of_frame net choices entry) (λ frame P. comes_one frame.number (entrant_of (entry frame.body)) P) 1
        (reading_of packets).frames (numbered_packets packets)

    pub driven_mixes : (number : ℕ) (schedule : List ℕ)
        → frames_sent number (scheduled schedule comings) ≡ frames_of number (steps_of number comings)
    driven_mixes number schedule = frames_sent_law number schedule comings driven_apart

    pub driven_tells : (number : ℕ) (schedule : List ℕ)
        → lines_told net number (scheduled schedule comings) ≡ line_of_walk net number (steps_of number comings)
    driven_tells number schedule = lines_told_law net number schedule comings driven_apart

    pub driven_walks : All (λ (c : Coming). 0 < length c.steps) comings
    driven_walks = all_walk (coming_of_frame net choices entry) (λ frame. comes_steps frame.number (entrant_of (entry frame.body)))
        (reading_of packets).frames
