-- Paths of states as lists of SIDs: what rooms and legs say of a path apart, and what the SIDs of a search are to lists.
use Rattle.std.specs.Prelude.{ℕ}
use Rattle.list_pack.specs.declared.types.Cost.{Cost}

abbrev pub cost_with : ℕ → ℕ → ℕ → Cost
cost_with containers sids hops = record { containers = containers; sids = sids; hops = hops }
