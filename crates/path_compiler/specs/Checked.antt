-- What the verdict on a certificate says of lists.
use Rattle.std.specs.Prelude.{◌≡◌, ℕ, List}
use Rattle.net_model.specs.Network.{Network}
use Rattle.list_pack.specs.declared.types.Container.{Container}
use Rattle.list_pack.specs.declared.types.Cost.{Cost}
use Rattle.list_pack.specs.Costs.{AtMost}
use Rattle.list_pack.specs.Paths.{cost_with}
use Rattle.list_pack.specs.SidLists.{IsLegalList}
use Rattle.list_certificate.specs.declared.certificate_types.Verdict.{Verdict}
use Rattle.list_certificate.specs.declared.certificate_types.Verdict.TheVariants.{Least, NoList, No}
use Rattle.path_compiler.specs.ListCosts.{list_cost}
use Rattle.path_compiler.specs.Compiled.{IsWhole}
use Rattle.path_compiler.specs.Handing.{IsLeastOfHanding, NoneHandsOver}

-- a legal list, all of whose SIDs are executed, realizes and costs so much, and no legal list that realizes costs less: none has fewer
-- containers, or as many and a smaller cost of its SIDs, or as many of both and a smaller need
pub record IsLeastCost (sid_cost : ℕ) (net : Network) (Realizes Executes : List Container → ℕ → Type 0) (cost : Cost) : Type 0 where
  pub list : List Container
  pub whole : IsWhole net Realizes Executes list cost.hops
  pub costs : list_cost sid_cost list cost.hops ≡ cost
  pub least : (other : List Container) (n : ℕ) → IsLegalList net other → Realizes other n → AtMost cost (list_cost sid_cost other n)

-- what a verdict says of lists: the least cost, or that no legal list realizes
abbrev pub Says : ℕ → Network → (List Container → ℕ → Type 0) → (List Container → ℕ → Type 0) → Verdict → Type 0
Says sid_cost net Realizes Executes (Least containers sids hops) =
    IsLeastCost sid_cost net Realizes Executes (cost_with containers sids hops)
Says sid_cost net Realizes Executes NoList = (list : List Container) (need : ℕ) → IsLegalList net list → ¬ Realizes list need
Says sid_cost net Realizes Executes (No line why) = Unit {0}

-- what it says of the legal lists that hand over even one packet, by a relation that says so: the cost is the least of theirs too, or there
-- are none
abbrev pub SaysOver : ℕ → Network → (List Container → ℕ → Type 0) → Verdict → Type 0
SaysOver sid_cost net Hands (Least containers sids hops) = IsLeastOfHanding sid_cost net Hands (cost_with containers sids hops)
SaysOver sid_cost net Hands NoList = NoneHandsOver net Hands
SaysOver sid_cost net Hands (No line why) = Unit {0}
