-- Need not be believed: helps proofs and other laws.
-- A world whose headers count down, to see which stages are counted.
use Rattle.std.specs.Prelude.{ℕ, zero, suc, ◌==◌, []}
use Rattle.binding_spec.specs.Machines.{Events}
use Rattle.binding_spec.specs.TunnelPackets.{World, Look, Executes, Exposes}

-- links, events, steps, SIDs, places, headers and what is inside are numbers; an event meets the step of its own number
abbrev pub numbers : Events ℕ ℕ ℕ
numbers = record { crossed = λ link. link; meets = λ t e. t == e }

-- header n + 1 is executed and is header n then; header 0 is taken off; both at SID 0 and where the header stands
abbrev pub count_down : ℕ → ℕ → Look ℕ ℕ ℕ ℕ ℕ
count_down place zero = Exposes 0 place 0
count_down place (suc n) = Executes 0 place n

abbrev pub counting : ℕ → World ℕ ℕ ℕ ℕ ℕ ℕ ℕ
counting limit = record { events = numbers; executed = λ sid. []; look = count_down; limit = limit }
