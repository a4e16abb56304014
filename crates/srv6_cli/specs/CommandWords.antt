-- What the words of the command line ask for.
use Rattle.std.specs.Prelude.{ℕ, List}
use Rattle.generate_commands.specs.declared.gen_command.Made.{Made}

-- what the words ask for; words outside the grammar ask for nothing that there is
pub data Command : Type 0 where
  Run : List ℕ → List ℕ → List ℕ → List ℕ → Command
  Compile : List ℕ → List ℕ → Command
  Check : List ℕ → List ℕ → List ℕ → Command
  Walk : List ℕ → List ℕ → List ℕ → List ℕ → Command
  Trace : List ℕ → List ℕ → List ℕ → Command
  Replay : List ℕ → List ℕ → Command
  Update : List ℕ → List ℕ → List ℕ → List ℕ → Command
  Show : Command
  Gen : ℕ → Made → Command
  Unknown : Command
