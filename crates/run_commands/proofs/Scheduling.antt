-- Packets one after the other, as stages in the order of no schedule.
use Rattle.std.proofs.Common.{◌≡◌, ℕ, suc, ◌-◌, List, [], ◌∷◌, ◌++◌, length, Option, Some, None, refl, sym, ap, ap₂, ◌∙◌, append_assoc, append-nil, arith}
use Rattle.std.specs.List.{flat_map}
use Rattle.std.proofs.lemmas.Grind.{flat_map-append}
use Rattle.std.proofs.lemmas.List.{map-append}
use Rattle.pcap_io.specs.declared.frame.Body.{Body}
use Rattle.pcap_io.specs.declared.frame.Frame.{Frame}
use Rattle.srv6_rules.specs.Packet.{Content}
use Rattle.net_model.specs.Network.{Network}
use Rattle.walk_rules.specs.declared.place.Place.{Place}
use Rattle.walk_rules.specs.Walk.{Stage, walk_of, stage_of, choice_at, end_of}
use Rattle.walk_rules.specs.WalkTerms.{walk_on}
use Rattle.walk_rules.proofs.PublicLaws.{walk_of_suc}
use Rattle.packet_walk.specs.Schedule.{Coming, Taken, all_of, one_by_one}
use Rattle.walk_rules.specs.declared.limits.TheConstants.{MAX_STAGES}
use Rattle.run_commands.specs.WrittenCapture.{frame_of_gave, frames_of}
use Rattle.srx_edge.specs.CallSteps.{Ending}
use Rattle.command_output.specs.GatheredTerms.{Goes, Pooled}
use Rattle.command_output.specs.OutputLines.{packet_line}
use Rattle.command_output.specs.OutputPieces.{ForErr, Which, ToOut, ToErr, bytes_in_order}
use Rattle.run_commands.specs.Scheduled.{coming, pieces_of_stage, pieces_of_stages, scheduled_pieces}
use Rattle.run_commands.specs.declared.enters.Entrant.{Entrant}
use Rattle.run_commands.specs.Admission.{Admission, entrant_of, coming_if_admitted, coming_of_frame, comings_of_frames, line_of_frame}
use Rattle.run_commands.specs.AdmissionTerms.{line_pieces, packet_pieces, pieces_of_frame, pieces_one_by_one}
use Rattle.command_output.proofs.PublicLaws.{goes_same, marked, bytes_in_order_append}

-- a packet's frames and then its line are the pieces of its stages, one after the other

module _ (net : Network) where
  packet_same : (number : ℕ) (s : Stage) (more : List Stage)
      → bytes_in_order (packet_pieces net number (s ∷ more)) ≡ bytes_in_order (pieces_of_stages net (all_of number (s ∷ more)))
  packet_same number s [] =
      ap (λ (frame : List ℕ). marked ToOut frame ++ (marked ToErr (packet_line net number (end_of net (s ∷ []))) ++ []))
      (append-nil (frame_of_gave number s.gave))
  packet_same number s (t ∷ more) =
      ap (λ (bytes : List (Which × ℕ)). bytes ++ (marked ToErr (packet_line net number (end_of net (t ∷ more))) ++ []))
      (map-append (λ byte. (ToOut, byte)) (frame_of_gave number s.gave) (frames_of number (t ∷ more)))
      ∙ (append_assoc (marked ToOut (frame_of_gave number s.gave)) (marked ToOut (frames_of number (t ∷ more)))
      (marked ToErr (packet_line net number (end_of net (t ∷ more))) ++ [])
      ∙ ap (λ (bytes : List (Which × ℕ)). marked ToOut (frame_of_gave number s.gave) ++ bytes) (packet_same number t more))

  -- a packet of a walk, which has a stage

  module _ (number : ℕ) (place : Place) (content : Content) (pick : ℕ → ℕ) where
    abbrev steps : List Stage
    steps = walk_of MAX_STAGES net (Some place) content pick 0

    pub first_step : steps ≡ stage_of net place content (pick 0) ∷ walk_on (MAX_STAGES - 1) net (stage_of net place content (pick 0)) pick 0
    first_step =
        let one_more : MAX_STAGES ≡ suc (MAX_STAGES - 1) = omega arith in
        ap (λ (n : ℕ). walk_of n net (Some place) content pick 0) one_more ∙ walk_of_suc (MAX_STAGES - 1) net place content pick 0

    walk_same : bytes_in_order (packet_pieces net number steps) ≡ bytes_in_order (pieces_of_stages net (all_of number steps))
    walk_same =
        ap (λ (all : List Stage). bytes_in_order (packet_pieces net number all)) first_step
        ∙ (packet_same number (stage_of net place content (pick 0))
        (walk_on (MAX_STAGES - 1) net (stage_of net place content (pick 0)) pick 0)
        ∙ sym (ap (λ (all : List Stage). bytes_in_order (pieces_of_stages net (all_of number all))) first_step))

    one_same : bytes_in_order (packet_pieces net number steps) ≡ bytes_in_order (pieces_of_stages net (one_by_one (coming number steps)))
    one_same = walk_same
        ∙ sym (ap (λ (stages : List Taken). bytes_in_order (pieces_of_stages net stages)) (append-nil (all_of number steps)))

  -- packets one after the other
  frames_same : (packets : Frame → List Coming)
      → ((frame : Frame) → bytes_in_order (pieces_of_frame net packets frame)
      ≡ bytes_in_order (pieces_of_stages net (one_by_one (packets frame))))
      → (frames : List Frame) → bytes_in_order (flat_map (pieces_of_frame net packets) frames)
      ≡ bytes_in_order (scheduled_pieces net [] (flat_map packets frames))
  frames_same packets each [] = refl
  frames_same packets each (frame ∷ more) =
      let one : List Taken = one_by_one (packets frame) in
      let others : List Taken = one_by_one (flat_map packets more) in
      bytes_in_order_append (pieces_of_frame net packets frame) (flat_map (pieces_of_frame net packets) more)
      ∙ (ap₂ (λ (a b : List (Which × ℕ)). a ++ b) (each frame) (frames_same packets each more)
      ∙ (sym (bytes_in_order_append (pieces_of_stages net one) (pieces_of_stages net others))
      ∙ ap bytes_in_order (sym (flat_map-append (pieces_of_stage net) one others)
      ∙ ap (pieces_of_stages net)
      (sym (flat_map-append (λ (c : Coming). all_of c.number c.steps) (packets frame) (flat_map packets more))))))

-- the lines of the packets that stay, one after the other

lines_same : (net : Network) (entry : Body → Admission) (frames : List Frame)
    → bytes_in_order (flat_map (line_pieces net entry) frames) ≡ bytes_in_order (ForErr (flat_map (line_of_frame net entry) frames) ∷ [])
lines_same net entry [] = refl
lines_same net entry (frame ∷ more) =
    let line : List ℕ = line_of_frame net entry frame in
    let lines : List ℕ = flat_map (line_of_frame net entry) more in
    ap (λ (bytes : List (Which × ℕ)). marked ToErr line ++ bytes) (lines_same net entry more)
    ∙ (sym (append_assoc (marked ToErr line) (marked ToErr lines) [])
    ∙ ap (λ (bytes : List (Which × ℕ)). bytes ++ []) (sym (map-append (λ byte. (ToErr, byte)) line lines)))

pub lines_went : (net : Network) (entry : Body → Admission) (frames : List Frame) (ending : Ending) (old new : Pooled)
    → Goes ending (flat_map (line_pieces net entry) frames) old new
    → Goes ending (ForErr (flat_map (line_of_frame net entry) frames) ∷ []) old new
lines_went net entry frames ending old new wrote =
    goes_same ending (flat_map (line_pieces net entry) frames) (ForErr (flat_map (line_of_frame net entry) frames) ∷ []) old new
    (lines_same net entry frames) wrote

-- those that enter of frames

module _ (net : Network) (choices : List ℕ) (entry : Body → Admission) where
  comes_same : (number : ℕ) (comes : Option Entrant) → bytes_in_order (pieces_one_by_one net (coming_if_admitted net choices number comes))
      ≡ bytes_in_order (pieces_of_stages net (one_by_one (coming_if_admitted net choices number comes)))
  comes_same number None = refl
  comes_same number (Some comes) = one_same net number comes.place comes.content (choice_at choices)

  in_order : (frames : List Frame) → bytes_in_order (flat_map (pieces_of_frame net (coming_of_frame net choices entry)) frames)
      ≡ bytes_in_order (scheduled_pieces net [] (comings_of_frames net choices entry frames))
  in_order frames = frames_same net (coming_of_frame net choices entry)
      (λ frame. comes_same frame.number (entrant_of (entry frame.body))) frames

  -- a step that wrote the packets one after the other wrote them under no schedule
  pub wrote_in_order : (frames : List Frame) (schedule : List ℕ) → length schedule ≡ 0 → (ending : Ending) (old new : Pooled)
      → Goes ending (flat_map (pieces_of_frame net (coming_of_frame net choices entry)) frames) old new
      → Goes ending (scheduled_pieces net schedule (comings_of_frames net choices entry frames)) old new
  wrote_in_order frames [] none ending old new wrote =
      goes_same ending (flat_map (pieces_of_frame net (coming_of_frame net choices entry)) frames)
      (scheduled_pieces net [] (comings_of_frames net choices entry frames)) old new (in_order frames) wrote
  wrote_in_order frames (number ∷ schedule) none ending old new wrote = absurd (omega (arith, none))
