-- What holds of what is told of the files and of the input, by facts of it.
use Rattle.std.proofs.Common.{ℕ, List, Option, None, Some, IfSome}
use Rattle.command_output.specs.CommandSpec.{Held}

-- of any input
pub any_input : (left : Option (List ℕ)) → IfSome left (λ input. Unit {0})
any_input None = tt
any_input (Some input) = tt

-- of what is told, of two and of three facts of it

pub both_told : (told : Option Held) (P Q R : Held → Type 0) → ((held : Held) → P held → Q held → R held) → IfSome told P → IfSome told Q
    → IfSome told R
both_told None P Q R f p q = tt
both_told (Some held) P Q R f p q = f held p q

pub all_told : (told : Option Held) (P Q R S : Held → Type 0) → ((held : Held) → P held → Q held → R held → S held) → IfSome told P
    → IfSome told Q → IfSome told R → IfSome told S
all_told None P Q R S f p q r = tt
all_told (Some held) P Q R S f p q r = f held p q r
