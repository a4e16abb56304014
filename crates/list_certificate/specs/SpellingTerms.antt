-- Need not be believed: helps proofs and other laws.
-- Terms beside those of `specs/Spelling.antt`.
use Rattle.std.specs.Prelude.{ℕ, length, Option, Some, None, ◌<◌}
use Rattle.net_model.specs.Network.{Network}
use Rattle.list_pack.specs.declared.types.State.{State}

-- the SID of a state is one of the network
abbrev pub IsKnownBy : Network → Option ℕ → Type 0
IsKnownBy net None = Unit {0}
IsKnownBy net (Some n) = n < length net.sids

abbrev pub IsKnown : Network → State → Type 0
IsKnown net s = IsKnownBy net s.via
