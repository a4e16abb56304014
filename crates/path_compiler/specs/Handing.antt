-- The legal lists that hand over even one packet, which the least list is compared with too. Below, a relation says that a list hands over
-- even one packet at a hop limit.
use Rattle.std.specs.Prelude.{ℕ, ◌+◌, List}
use Rattle.net_model.specs.Network.{Network}
use Rattle.list_pack.specs.declared.types.Container.{Container}
use Rattle.list_pack.specs.declared.types.Cost.{Cost}
use Rattle.list_pack.specs.Costs.{AtMost}
use Rattle.list_pack.specs.Paths.{cost_with}
use Rattle.list_pack.specs.SidLists.{IsLegalList}
use Rattle.path_compiler.specs.ListCosts.{list_cost}

-- a cost is least of theirs: none of them has fewer containers, or as many and a smaller cost of its SIDs, or as many of both at a hop limit
-- that is not above the need
abbrev pub IsLeastOfHanding : ℕ → Network → (List Container → ℕ → Type 0) → Cost → Type 0
IsLeastOfHanding sid_cost net Hands cost =
    (list : List Container) (hop : ℕ) → IsLegalList net list → Hands list hop
    → AtMost (cost_with cost.containers cost.sids (cost.hops + 1)) (list_cost sid_cost list hop)

abbrev pub NoneHandsOver : Network → (List Container → ℕ → Type 0) → Type 0
NoneHandsOver net Hands = (list : List Container) (hop : ℕ) → IsLegalList net list → ¬ Hands list hop
