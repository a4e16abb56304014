-- Need not be believed: helps proofs and other laws.
-- Terms beside those of `specs/Costs.antt`.
use Rattle.std.specs.Prelude.{◌≡◌, ◌<◌, ◌≤◌}
use Rattle.list_pack.specs.declared.types.Cost.{Cost}

-- a cost is below another
pub record Below (a b : Cost) : Type 0 where
  pub containers : a.containers ≤ b.containers
  pub sids : a.containers ≡ b.containers → a.sids ≤ b.sids
  pub hops : a.containers ≡ b.containers → a.sids ≡ b.sids → a.hops < b.hops

-- the end is come to at no cost
abbrev pub nothing : Cost
nothing = record { containers = 0; sids = 0; hops = 0 }
