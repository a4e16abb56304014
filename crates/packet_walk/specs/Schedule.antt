-- Schedules: whose turn it is, among packets that have stages to come. A schedule entry gives the named packet one stage; an entry
-- that names no packet in flight takes none. After the schedule's last entry the packets still in flight are run to their ends in
-- the order of their numbers.
use Rattle.std.specs.Prelude.{ℕ, zero, suc, if◌then◌else◌, nat_eq, List, [], ◌∷◌, ◌++◌, drop, flat_map, slice_index, filter}
use Rattle.walk_rules.specs.Walk.{Stage}

-- a packet by the number of its frame, and the steps of its walk that are still to come: it is in flight while there are some
pub record Coming : Type 0 where
  pub number : ℕ
  pub steps : List Stage

-- a stage that a packet takes: the packet's number, the step, and the steps of its walk after it; where there are none it is the
-- packet's last
pub record Taken : Type 0 where
  pub number : ℕ
  pub step : Stage
  pub behind : List Stage

-- the steps still to come of the packet of a number; none where there is no such packet
abbrev pub steps_of : ℕ → List Coming → List Stage
steps_of number [] = []
steps_of number (c ∷ more) = if nat_eq number c.number then c.steps else steps_of number more

-- the packets, after that of a number took the first of its steps, if it had one
abbrev pub without_first : ℕ → List Coming → List Coming
without_first number [] = []
without_first number (c ∷ more) =
    if nat_eq number c.number then record { number = c.number; steps = drop 1 c.steps } ∷ more else c ∷ without_first number more

-- the first of a packet's steps, if there is one
abbrev pub first_of : ℕ → List Stage → List Taken
first_of number [] = []
first_of number (s ∷ behind) = record { number = number; step = s; behind = behind } ∷ []

-- all of a packet's steps, to its end
abbrev pub all_of : ℕ → List Stage → List Taken
all_of number [] = []
all_of number (s ∷ behind) = record { number = number; step = s; behind = behind } ∷ all_of number behind

-- packets are run to their ends, one after the other
abbrev pub one_by_one : List Coming → List Taken
one_by_one comings = flat_map (λ c. all_of c.number c.steps) comings

-- the stages that a schedule gives packets: for each entry the first step of the packet of that number, if it has one to come, and
-- after the last entry all that are still to come
abbrev pub scheduled : List ℕ → List Coming → List Taken
scheduled [] comings = one_by_one comings
scheduled (entry ∷ schedule) comings =
    first_of entry (steps_of entry comings) ++ scheduled schedule (without_first entry comings)

-- the packets of a flight, by the numbers of their frames

-- the number of a packet's frame
abbrev pub frame_of : List ℕ → ℕ → ℕ
frame_of numbers zero = 0
frame_of numbers (suc before) = slice_index numbers before

-- the stages of the packet of a number among those of all, and their steps
abbrev pub stages_of : ℕ → List Taken → List Taken
stages_of number stages = filter (λ t. nat_eq number t.number) stages
