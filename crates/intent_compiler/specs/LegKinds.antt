-- Kinds of legs.
use Rattle.std.specs.Prelude.{◌≡◌, ℕ, false}
use Rattle.net_model.specs.Network.{Network}
use Rattle.leg_table.specs.PositionSids.{is_binding}

-- the network has no binding SID
abbrev pub BindsNothing : Network → Type 0
BindsNothing net = (n : ℕ) → is_binding net n ≡ false
