-- Need not be believed: helps proofs and other laws.
-- Terms beside those of `specs/Schedule.antt`.
use Rattle.std.specs.Prelude.{ℕ, List, [], ◌∷◌, ◌≡◌, ◌≤◌, length, map, Option, Some, None, IfSome, IsSome}
use Rattle.walk_rules.specs.Walk.{Stage}
use Rattle.net_model.specs.Network.{Network}
use Rattle.packet_walk.specs.Flight.{InFlight, Flight, stage_in, staged, packet_of, turned}
use Rattle.packet_walk.specs.FlightTerms.{IsGiven}
use Rattle.packet_walk.specs.Rest.{rest_of}
use Rattle.packet_walk.specs.Schedule.{Coming, Taken, scheduled, frame_of, stages_of}

-- the packets of a flight, by the numbers of their frames

abbrev pub steps_in : ℕ → List Taken → List Stage
steps_in number stages = map (λ t. t.step) (stages_of number stages)

-- the packets of a flight, by the numbers of their frames

abbrev pub comings : Network → List ℕ → List InFlight → List Coming
comings net [] packets = []
comings net (number ∷ numbers) [] = []
comings net (number ∷ numbers) (p ∷ packets) = record { number = number; steps = rest_of net p } ∷ comings net numbers packets

abbrev pub comings_of : List ℕ → Flight → List Coming
comings_of numbers f = comings f.net numbers f.packets

-- the next stage of a packet of a frame's number
abbrev pub next_of : ℕ → Network → InFlight → Taken
next_of number net p = record { number = number; step = stage_in net p; behind = rest_of net (staged net p) }

-- how far a schedule has come: its entries that are left, the numbers of the packets' frames, and how many of the first packets
-- were passed, since they have ended
pub record Progress : Type 0 where
  pub schedule : List ℕ
  pub numbers : List ℕ
  pub passed : ℕ

abbrev pub progress : List ℕ → List ℕ → ℕ → Progress
progress schedule numbers passed = record { schedule = schedule; numbers = numbers; passed = passed }

-- a flight has come as far: each packet has a frame's number, and those passed have ended
pub record IsOf (f : Flight) (at : Progress) : Type 0 where
  pub each : length at.numbers ≡ length f.packets
  pub passed : (number : ℕ) (p : InFlight) → number ≤ at.passed → packet_of f number ≡ Some p → IsSome p.ended

-- the stages that are due
abbrev pub due : Progress → Flight → List Taken
due at f = scheduled at.schedule (comings_of at.numbers f)

-- it is the turn of the packet of a number, in the order of entering: it is in flight, and of the stages that are due the first is
-- its next, and the others are due after it
pub record IsTurnOf (old : Progress) (f : Flight) (number : ℕ) (new : Progress) : Type 0 where
  pub given : IsGiven f number
  pub going : IfSome (packet_of f number) (λ p. p.ended ≡ None)
  pub first : IfSome (packet_of f number) (λ p.
      due old f ≡ next_of (frame_of old.numbers number) f.net p ∷ due new (turned number f))
  pub numbers : new.numbers ≡ old.numbers
  pub later : IsOf (turned number f) new

-- it is no packet's turn: no stage is due, and all have ended
pub record IsNoTurn (old : Progress) (f : Flight) (new : Progress) : Type 0 where
  pub none : due old f ≡ []
  pub ended : (number : ℕ) (p : InFlight) → packet_of f number ≡ Some p → IsSome p.ended
  pub numbers : new.numbers ≡ old.numbers
  pub later : IsOf f new

-- whose turn is next
abbrev pub IsNext : Progress → Flight → Option ℕ → Progress → Type 0
IsNext old f None new = IsNoTurn old f new
IsNext old f (Some number) new = IsTurnOf old f number new

-- what an entry gives: to no packet a stage, or to the packet of a number, in the order of entering, which is in flight, its next

pub record GivesTo (numbers : List ℕ) (f : Flight) (entry number : ℕ) : Type 0 where
  pub given : IsGiven f number
  pub going : IfSome (packet_of f number) (λ p. p.ended ≡ None)
  pub first : (schedule : List ℕ) → IfSome (packet_of f number) (λ p.
      scheduled (entry ∷ schedule) (comings_of numbers f)
      ≡ next_of (frame_of numbers number) f.net p ∷ scheduled schedule (comings_of numbers (turned number f)))

abbrev pub EntryGives : List ℕ → Flight → ℕ → Option ℕ → Type 0
EntryGives numbers f entry None =
    (schedule : List ℕ) → scheduled (entry ∷ schedule) (comings_of numbers f) ≡ scheduled schedule (comings_of numbers f)
EntryGives numbers f entry (Some number) = GivesTo numbers f entry number

-- entries were passed over that gave no packet a stage: the same stages are due
pub record IsLeft (old : Progress) (f : Flight) (new : Progress) : Type 0 where
  pub due : due new f ≡ due old f
  pub numbers : new.numbers ≡ old.numbers
  pub later : IsOf f new

-- what the entries give: the first that gives a packet a stage, or they are all passed over
abbrev pub EntriesGive : Progress → Flight → Option ℕ → Progress → Type 0
EntriesGive old f None new = IsLeft old f new × (new.schedule ≡ [])
EntriesGive old f (Some number) new = IsTurnOf old f number new
