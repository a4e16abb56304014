-- Need not be believed: helps proofs and other laws.
-- Terms beside those of `binding_spec/specs/TunnelStages.antt`.
use Rattle.std.specs.Prelude.{ℕ, false, ◌≡◌}
use Rattle.net_model.specs.Network.{Network}
use Rattle.binding_spec.specs.TunnelStages.{is_binding}

-- ---- binding SIDs

-- no SID of the network does
abbrev pub NothingBinds : Network → Type 0
NothingBinds net = (n : ℕ) → is_binding net n ≡ false
