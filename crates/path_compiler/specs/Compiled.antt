-- What an intent is compiled to, and when it is refused. (own rule; containers are those of RFC 9800 sections 6.2 to 6.4, the header is
-- that of RFC 8986 sections 5.1 and 5.2)
use Rattle.std.specs.Prelude.{◌≡◌, ℕ, ◌*◌, ◌<◌, ◌≤◌, Bool, false, List, [], length, Result, Ok, Err}
use Rattle.srv6_rules.specs.Encapsulation.{header_bytes}
use Rattle.net_model.specs.Network.{Network}
use Rattle.net_flatness.specs.Flat.{flatness_of}
use Rattle.intent_reader.specs.declared.intent.Intent.{Intent}
use Rattle.list_pack.specs.declared.types.Container.{Container}
use Rattle.list_pack.specs.declared.types.Solution.{Solution}
use Rattle.list_pack.specs.Costs.{AtMost}
use Rattle.list_pack.specs.Least.{IsSolution, path_before}
use Rattle.list_pack.specs.SidLists.{IsLegalList, prefixes_in, steps_in}
use Rattle.list_pack.specs.LegsValue.{LegsValue}
use Rattle.list_pack.specs.Paths.{cost_with}
use Rattle.path_compiler.specs.declared.compiled.Compiled.{Compiled}
use Rattle.path_compiler.specs.declared.compiled.CompileFault.{CompileFault}
use Rattle.path_compiler.specs.declared.compiled.CompileFault.TheVariants as faults
use Rattle.path_compiler.specs.ListCosts.{list_cost}
use Rattle.path_compiler.specs.Handing.{IsLeastOfHanding, NoneHandsOver}

-- Below, a relation says that a list realizes with a need, and another that as many SIDs of a list are executed.

-- a legal list that realizes with a need, and all of whose SIDs are executed
pub record IsWhole (net : Network) (Realizes Executes : List Container → ℕ → Type 0) (list : List Container) (need : ℕ) : Type 0 where
  pub legal : IsLegalList net list
  pub realizes : Realizes list need
  pub executes : Executes list (length (prefixes_in list))

-- the chosen list: no legal list that realizes has fewer containers, or as many and a smaller cost of its SIDs, or as many of both and a
-- smaller need; and of those that are equal in all, all of whose SIDs are executed, none comes before, SID by SID: the lower prefix first,
-- and on one prefix staying in the container before a new one
pub record IsChosen (sid_cost : ℕ) (net : Network) (Realizes Executes : List Container → ℕ → Type 0) (list : List Container) (need : ℕ)
    : Type 0 where
  pub whole : IsWhole net Realizes Executes list need
  pub least : (other : List Container) (n : ℕ) → IsLegalList net other → Realizes other n
      → AtMost (list_cost sid_cost list need) (list_cost sid_cost other n)
  pub first : (other : List Container) → IsWhole net Realizes Executes other need
      → list_cost sid_cost other need ≡ list_cost sid_cost list need → path_before (steps_in other) (steps_in list) ≡ false

-- the chosen list, with its containers and SIDs, the header bytes in front of the inner packet, than which no legal list that realizes needs
-- fewer, and what the search found, whose path is the list's
pub record IsFound (v : LegsValue) (net : Network) (Realizes Executes : List Container → ℕ → Type 0) (reduced : Bool) (c : Compiled)
    : Type 0 where
  pub chosen : IsChosen v.sid_cost net Realizes Executes c.list c.need
  pub containers : c.containers ≡ length c.list
  pub sids : c.sids ≡ length (prefixes_in c.list)
  pub header : c.header ≡ header_bytes reduced c.containers
  pub fewest : (other : List Container) (n : ℕ) → IsLegalList net other → Realizes other n
      → c.header ≤ header_bytes reduced (length other)
  pub path : c.solution.path ≡ steps_in c.list
  pub solution : IsSolution v c.solution

-- the chosen list is found, and the intent's bounds are kept
pub record IsKept (v : LegsValue) (net : Network) (Realizes Executes : List Container → ℕ → Type 0) (intent : Intent) (c : Compiled)
    : Type 0 where
  pub whole : net.hidden ≡ []
  pub flat : flatness_of net ≡ Ok tt
  pub found : IsFound v net Realizes Executes intent.reduced c
  pub short : c.containers ≤ intent.max_containers
  pub within : c.need < intent.hop_limit

pub record IsTooLong (v : LegsValue) (net : Network) (Realizes Executes : List Container → ℕ → Type 0) (intent : Intent) (c : Compiled)
    : Type 0 where
  pub whole : net.hidden ≡ []
  pub flat : flatness_of net ≡ Ok tt
  pub found : IsFound v net Realizes Executes intent.reduced c
  pub long : intent.max_containers < c.containers

pub record IsOverHopLimit (v : LegsValue) (net : Network) (Realizes Executes : List Container → ℕ → Type 0) (intent : Intent) (c : Compiled)
    : Type 0 where
  pub whole : net.hidden ≡ []
  pub flat : flatness_of net ≡ Ok tt
  pub found : IsFound v net Realizes Executes intent.reduced c
  pub short : c.containers ≤ intent.max_containers
  pub over : intent.hop_limit ≤ c.need

-- no legal list realizes
pub record IsNoList (v : LegsValue) (net : Network) (Realizes : List Container → ℕ → Type 0) (s : Solution) : Type 0 where
  pub whole : net.hidden ≡ []
  pub flat : flatness_of net ≡ Ok tt
  pub none : (list : List Container) (need : ℕ) → IsLegalList net list → ¬ Realizes list need
  pub solution : IsSolution v s
  pub no_path : s.path ≡ []

-- the answer: a network that is not flat is refused first, then an intent without a list, then a chosen list of too many
-- containers, then one whose need is not below the hop limit
abbrev pub AnswersOver : LegsValue → Network → (List Container → ℕ → Type 0) → (List Container → ℕ → Type 0) → Intent
    → Result Compiled CompileFault → Type 0
AnswersOver v net Realizes Executes intent (Ok c) = IsKept v net Realizes Executes intent c
AnswersOver v net Realizes Executes intent (Err (faults.NotFlat why)) = flatness_of net ≡ Err why
AnswersOver v net Realizes Executes intent (Err (faults.NoList s)) = IsNoList v net Realizes s
AnswersOver v net Realizes Executes intent (Err (faults.TooLong c)) = IsTooLong v net Realizes Executes intent c
AnswersOver v net Realizes Executes intent (Err (faults.HopLimit c)) = IsOverHopLimit v net Realizes Executes intent c
AnswersOver v net Realizes Executes intent (Err faults.NoMemory) = Unit {0}

-- ---- the lists that hand over even one packet

-- the chosen list is the least of these: none needs fewer header bytes, nor has fewer containers, or as many and a smaller cost of its SIDs,
-- or as many of both at a hop limit that is not above its need
pub record IsLeastOver (sid_cost : ℕ) (net : Network) (Hands : List Container → ℕ → Type 0) (reduced : Bool) (c : Compiled) : Type 0 where
  pub fewest : (list : List Container) (hop : ℕ) → IsLegalList net list → Hands list hop → c.header ≤ header_bytes reduced (length list)
  pub least : IsLeastOfHanding sid_cost net Hands (cost_with c.containers (sid_cost * c.sids) c.need)

-- what an answer says of them: the chosen list is the least of them, and where there is none, there are none of them
abbrev pub NoneLessOver : ℕ → Network → (List Container → ℕ → Type 0) → Bool → Result Compiled CompileFault → Type 0
NoneLessOver sid_cost net Hands reduced (Ok c) = IsLeastOver sid_cost net Hands reduced c
NoneLessOver sid_cost net Hands reduced (Err (faults.NotFlat why)) = Unit {0}
NoneLessOver sid_cost net Hands reduced (Err (faults.NoList s)) = NoneHandsOver net Hands
NoneLessOver sid_cost net Hands reduced (Err (faults.TooLong c)) = IsLeastOver sid_cost net Hands reduced c
NoneLessOver sid_cost net Hands reduced (Err (faults.HopLimit c)) = IsLeastOver sid_cost net Hands reduced c
NoneLessOver sid_cost net Hands reduced (Err faults.NoMemory) = Unit {0}
