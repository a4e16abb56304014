-- A packet whose walk in its own description is told of it takes that walk.
use Rattle.std.proofs.Common.{◌≡◌, ℕ, List, [], ◌∷◌, ◌++◌, All, refl, sym, ap, ◌∙◌, subst, append-nil, arith}
use Rattle.net_model.specs.declared.net.Hit.{Hit}
use Rattle.net_model.specs.Network.{Network}
use Rattle.walk_rules.specs.declared.limits.TheConstants.{MAX_STAGES}
use Rattle.walk_rules.specs.declared.place.Place.{Place}
use Rattle.walk_rules.specs.Walk.{Stage, choice_at, end_of}
use Rattle.node_stage.specs.Fronted.{fronted}
use Rattle.packet_walk.specs.Flight.{InFlight, stage_in, staged}
use Rattle.packet_walk.specs.FlightTerms.{IsCounted}
use Rattle.packet_walk.specs.Rest.{rest_of}
use Rattle.packet_walk.proofs.PublicLaws.{entering_counted, rest_going}
use Rattle.update_flight.specs.MomentTables.{HasRoute}
use Rattle.update_spec.specs.Alike.{BeginAs, SamePlace, SameStages}
use Rattle.update_walks_theory.specs.AlikeTerms.{LooksAs}
use Rattle.update_walks_theory.proofs.PublicLaws.{Split, ends_same, routes_same, split_same, stages_shown, places_same}
use Rattle.command_output.specs.OutputLines.{packet_line}
use Rattle.command_output.specs.OutputPieces.{bytes_for_err, bytes_for_out}
use Rattle.run_commands.specs.declared.enters.Entrant.{Entrant}
use Rattle.run_commands.specs.WrittenCapture.{frames_of}
use Rattle.run_commands.specs.Admission.{walk_of_entrant}
use Rattle.run_commands.specs.Scheduled.{line_of_walk}
use Rattle.walk_commands.specs.WalkCommand.{submitted_at}
use Rattle.update_driver.specs.Events.{pieces_of}
use Rattle.update_driver.specs.Moving.{Happening, as_in_flight, first_member}
use Rattle.update_commands.specs.WholeUpdate.{TakesWalk, stages_happened}
use Rattle.update_commands.proofs.Entered.{tellings}
use Rattle.update_commands.proofs.SameFrames.{frames_same, line_same, stages_tellings}
use Rattle.update_commands.proofs.Telling.{frames_told, lines_told_law}

-- what is told begins with the stages of a front of the packet's walk
pub record TellsFront (a : Network) (number : ℕ) (told : List Happening) (p : InFlight) (first more : List Stage) : Type 0 where
  pub behind : List Happening
  pub is : told ≡ tellings number a p first ++ behind
  pub over : more ≡ [] → behind ≡ []

module _ (joined old net : Network) (hidden : List Hit) where
  abbrev a : Network
  a = record joined { hidden = hidden }

  module _ (looks : LooksAs a net) (nodes : old.nodes ≡ net.nodes) (links : old.links ≡ net.links) (number : ℕ) (told : List Happening)
      (comes : Entrant) (node : ℕ) (place : comes.place ≡ submitted_at node)
      (tells : (first more : List Stage) → first ++ more ≡ rest_of a (as_in_flight comes) → All HasRoute first
      → TellsFront a number told (as_in_flight comes) first more) where
    abbrev p : InFlight
    p = as_in_flight comes

    abbrev walk : List Stage
    walk = walk_of_entrant net first_member comes

    counted : IsCounted p
    counted = entering_counted (fronted comes.content 0) comes.place first_member (omega arith)

    same_place : SamePlace a net comes.place comes.place
    same_place = subst (λ (q : Place). SamePlace a net q q) (sym place) (record { node = refl; how = refl; family = refl })

    same : SameStages a net (rest_of a p) walk
    same = places_same a net looks MAX_STAGES comes.place comes.place comes.content (choice_at first_member) 0 same_place

    fronts : (first more : List Stage) → walk ≡ first ++ more → All HasRoute first → BeginAs joined net (stages_happened told) first
    fronts first more is routes =
        let split : Split a net (rest_of a p) first more =
        split_same a net (rest_of a p) first more (subst (λ (ts : List Stage). SameStages a net (rest_of a p) ts) is same) in
        let tale = tells split.front split.rest (sym split.is) (routes_same a net split.front first split.same routes) in
        record {
          first = split.front;
          behind = stages_happened tale.behind;
          split = ap stages_happened tale.is ∙ stages_tellings number a p split.front tale.behind;
          same = stages_shown joined net hidden split.front first split.same;
        }

    -- where it has a route at each stage, all is told
    module _ (routes : All HasRoute walk) where
      told_whole : told ≡ tellings number a p (rest_of a p)
      told_whole =
          let tale = tells (rest_of a p) [] (append-nil (rest_of a p)) (routes_same a net (rest_of a p) walk same routes) in
          tale.is ∙ (ap (λ (xs : List Happening). tellings number a p (rest_of a p) ++ xs) (tale.over refl)
          ∙ append-nil (tellings number a p (rest_of a p)))

      all_frames : bytes_for_out (pieces_of old told) ≡ frames_of number walk
      all_frames =
          ap (λ (xs : List Happening). bytes_for_out (pieces_of old xs)) told_whole
          ∙ (frames_told old number a p (rest_of a p) ∙ frames_same a net number (rest_of a p) walk same)

      some_walk : (ts : List Stage) → SameStages a net (rest_of a p) ts
          → packet_line net number (end_of net ts) ≡ line_of_walk net number ts
      some_walk [] none = absurd (no_stages (rest_of a p) (rest_going a p refl (counted.left refl)) none)
        where
          no_stages : (ss : List Stage) → ss ≡ stage_in a p ∷ rest_of a (staged a p) → SameStages a net ss [] → ⊥
          no_stages [] e none = cc
          no_stages (s ∷ ss) e none = none
      some_walk (t ∷ ts) one = refl

      the_line : bytes_for_err (pieces_of old told) ≡ line_of_walk net number walk
      the_line =
          ap (λ (xs : List Happening). bytes_for_err (pieces_of old xs)) told_whole
          ∙ (lines_told_law old number a p (rest_of a p) refl refl counted
          ∙ (ap (packet_line old number) (ends_same a net looks (rest_of a p) walk same)
          ∙ (line_same old net number (end_of net walk) nodes links ∙ some_walk walk same)))

    pub takes_walk : TakesWalk joined old net number told walk
    takes_walk = record { fronts = fronts; frames = all_frames; line = the_line }
