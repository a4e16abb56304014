-- The choices, the schedule and the events that the words give.
use Rattle.std.specs.Prelude.{ℕ, Bool, ◌==◌, not, nat_lt, if◌then◌else◌, List, [], ◌∷◌, length, Option, Some, None}
use Rattle.std.specs.List.{list_all, slice_split}
use Rattle.command_inputs.specs.declared.limits.TheConstants.{MAX_CHOICES, MAX_SCHEDULE}
use Rattle.trace_replay.specs.TraceGrammar.{number_in}

-- each part's number, if each has one

abbrev pub number_before : Option ℕ → Option (List ℕ) → Option (List ℕ)
number_before None numbers = None
number_before (Some number) None = None
number_before (Some number) (Some numbers) = Some (number ∷ numbers)

abbrev pub numbers_in : List (List ℕ) → Option (List ℕ)
numbers_in [] = Some []
numbers_in (part ∷ parts) = number_before (number_in part) (numbers_in parts)

abbrev pub parts_at_commas : List ℕ → List (List ℕ)
parts_at_commas text = slice_split (λ byte. byte == 44) text

-- so many numbers at most, joined by commas, and at least one
abbrev pub numbers_up_to : ℕ → List ℕ → Option (List ℕ)
numbers_up_to most text = if nat_lt most (length (parts_at_commas text)) then None else numbers_in (parts_at_commas text)

-- 1 to 4,096 numbers joined by commas
abbrev pub choices_in : List ℕ → Option (List ℕ)
choices_in text = numbers_up_to MAX_CHOICES text

-- 1 to 65,536 numbers from 1 on, joined by commas

abbrev pub is_entry : ℕ → Bool
is_entry number = not (number == 0)

abbrev pub entries_of : Option (List ℕ) → Option (List ℕ)
entries_of None = None
entries_of (Some numbers) = if list_all is_entry numbers then Some numbers else None

abbrev pub schedule_in : List ℕ → Option (List ℕ)
schedule_in text = entries_of (numbers_up_to MAX_SCHEDULE text)

-- the events of an update: 1 to 65,536 numbers joined by commas
abbrev pub events_in : List ℕ → Option (List ℕ)
events_in text = numbers_up_to MAX_SCHEDULE text

-- the choices that may follow the words of a command; where they don't, decision d takes the first member
abbrev pub choices_after : List (List ℕ) → Option (List ℕ)
choices_after [] = Some (0 ∷ [])
choices_after (choices ∷ []) = choices_in choices
choices_after (choices ∷ next ∷ more) = None

-- the choices that may follow the words of a command, and the schedule that may follow them
pub record Picks : Type 0 where
  pub choices : List ℕ
  pub schedule : List ℕ

abbrev pub picks_with : Option (List ℕ) → Option (List ℕ) → Option Picks
picks_with None schedule = None
picks_with (Some choices) None = None
picks_with (Some choices) (Some schedule) = Some (record { choices = choices; schedule = schedule })

abbrev pub picks_after : List (List ℕ) → Option Picks
picks_after [] = Some (record { choices = 0 ∷ []; schedule = [] })
picks_after (choices ∷ []) = picks_with (choices_in choices) (Some [])
picks_after (choices ∷ schedule ∷ []) = picks_with (choices_in choices) (schedule_in schedule)
picks_after (choices ∷ schedule ∷ next ∷ more) = None
