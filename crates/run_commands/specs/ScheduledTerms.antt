-- Need not be believed: helps proofs and other laws.
-- Terms beside those of `specs/Scheduled.antt`.
use Rattle.std.specs.Prelude.{ℕ, List, [], ◌∷◌, Option, Some, None, ◌≡◌, ◌++◌, length}
use Rattle.std.specs.List.{flat_map}
use Rattle.net_model.specs.Network.{Network}
use Rattle.packet_walk.specs.Schedule.{Taken, stages_of}
use Rattle.std.specs.List.Sorted.{IsStrictlyIncreasing}
use Rattle.packet_walk.specs.Flight.{Flight, InFlight, with_front}
use Rattle.packet_walk.specs.FlightTerms.{entered}
use Rattle.run_commands.specs.Scheduled.{line_of_stage}

-- the lines after stages of the packet of a number, in order
abbrev pub lines_told : Network → ℕ → List Taken → List ℕ
lines_told net number stages = flat_map (line_of_stage net) (stages_of number stages)

-- each packet of a flight in the network has a frame's number, in which they rise
pub record IsInStep (net : Network) (numbers : List ℕ) (f : Flight) : Type 0 where
  pub same_net : f.net ≡ net
  pub each : length numbers ≡ length f.packets
  pub rising : IsStrictlyIncreasing numbers

-- a packet, if there is one, entered after the others, with the number of its frame, whatever is spare in front of it
abbrev pub IsEntered : ℕ → Option InFlight → List ℕ → Flight → List ℕ → Flight → Type 0
IsEntered number None numbers_old old numbers_new new = (numbers_new ≡ numbers_old) × (new ≡ old)
IsEntered number (Some p) numbers_old old numbers_new new =
    (numbers_new ≡ numbers_old ++ number ∷ []) × ((front : ℕ) × (new ≡ entered old (with_front front p)))
