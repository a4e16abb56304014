-- Need not be believed: helps proofs and other laws.
-- SIDs that share a title, for the test that each title stands at one SID.
use Rattle.std.specs.Prelude.{ℕ, Bool, false, ◌==◌, Option, Some, None}
use Rattle.srv6_rules.specs.declared.sid.SidEntry.{SidEntry}

-- both are there, and equal
abbrev pub same_option : Option ℕ → Option ℕ → Bool
same_option None u = false
same_option (Some t) None = false
same_option (Some t) (Some u) = t == u

abbrev pub same_title : SidEntry → SidEntry → Bool
same_title a b = same_option a.title b.title
