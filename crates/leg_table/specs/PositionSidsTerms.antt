-- Need not be believed: helps proofs and other laws.
-- Terms beside those of `specs/PositionSids.antt`.
use Rattle.std.specs.Prelude.{ℕ, Bool, true, ◌&&◌, List, [], ◌∷◌, slice_get, IsTrue, Contains, ◌↔◌}
use Rattle.net_model.specs.Network.{Network}
use Rattle.intent_reader.specs.declared.intent.Intent.{Intent}
use Rattle.leg_table.specs.PositionSids.{is_sid_at, sid_before}

-- numbers of SIDs in the order of their prefixes, each prefix once
abbrev pub in_order : Network → List ℕ → Bool
in_order net [] = true
in_order net (n ∷ []) = true
in_order net (n ∷ m ∷ ms) = sid_before (slice_get net.sids n) (slice_get net.sids m) && in_order net (m ∷ ms)

-- the SIDs at a position, in order, each once; they stand at one node, where no two SIDs have one prefix
pub record AreSidsAt (net : Network) (intent : Intent) (position : ℕ) (sids : List ℕ) : Type 0 where
  pub each : (n : ℕ) → Contains sids n ↔ IsTrue (is_sid_at net intent position n)
  pub order : IsTrue (in_order net sids)
