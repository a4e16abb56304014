-- Need not be believed: helps proofs and other laws.
-- Terms beside those of `specs/Outside.antt`.
use Rattle.std.specs.Prelude.{◌≡◌, ℕ, List}
use Rattle.srx_edge.specs.FilesRead.{FilesSeen}
use Rattle.command_output.specs.Outside.{asked_for_all, IsFrontOf}

-- the names that were asked for, by where the call stopped: all that are, or a front of them

-- a front of these names was asked for, and no other
pub record AsksForFront (wanted : List (List ℕ)) (old new : FilesSeen) : Type 0 where
  pub names : List (List ℕ)
  pub front : IsFrontOf wanted names
  pub seen : new ≡ asked_for_all names old
