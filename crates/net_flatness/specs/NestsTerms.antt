-- Need not be believed: helps proofs and other laws.
-- Terms beside those of `specs/Nests.antt`.
use Rattle.std.specs.Prelude.{ℕ, Contains}
use Rattle.v6_addr.specs.Address.{Holds}
use Rattle.srv6_rules.specs.declared.sid.SidEntry.{SidEntry}
use Rattle.net_model.specs.Network.{Network}
use Rattle.net_flatness.specs.Nests.{IsNest}

-- an address is a SID's own: the prefix holds it, and that of no SID nested in it does
pub record IsOwn (net : Network) (s : SidEntry) (a : ℕ) : Type 0 where
  pub held : Holds s.prefix a
  pub clear : (inner : SidEntry) → Contains net.sids inner → IsNest net s inner → ¬ Holds inner.prefix a
