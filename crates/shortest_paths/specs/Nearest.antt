-- Need not be believed: helps proofs and other laws.
-- The nearer of two nodes.
use Rattle.std.specs.Prelude.{nat_lt, if◌then◌else◌, Option, Some, None}
use Rattle.shortest_paths.specs.declared.nearest.Nearest.{Nearest}

-- the first where both are as near
abbrev pub nearer_of : Option Nearest → Option Nearest → Option Nearest
nearer_of None second = second
nearer_of (Some a) None = Some a
nearer_of (Some a) (Some b) = if nat_lt b.distance a.distance then Some b else Some a
