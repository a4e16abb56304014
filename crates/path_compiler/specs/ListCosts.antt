-- What a list costs that realizes with a need.
use Rattle.std.specs.Prelude.{ℕ, ◌*◌, List, length}
use Rattle.list_pack.specs.declared.types.Container.{Container}
use Rattle.list_pack.specs.declared.types.Cost.{Cost}
use Rattle.list_pack.specs.Paths.{cost_with}
use Rattle.list_pack.specs.SidLists.{prefixes_in}

-- its containers, what its SIDs cost where each costs so much, and the need
abbrev pub list_cost : ℕ → List Container → ℕ → Cost
list_cost sid_cost list need = cost_with (length list) (sid_cost * length (prefixes_in list)) need
