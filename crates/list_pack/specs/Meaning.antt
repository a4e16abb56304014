-- Need not be believed: helps proofs and other laws.
-- What legs mean: their paths are the legal lists of a network that realize what the legs are for.
use Rattle.std.specs.Prelude.{◌≡◌, ℕ, ◌*◌, ◌<◌, ◌≤◌, List, length, map, slice_get, Some}
use Rattle.srv6_rules.specs.declared.sid.SidEntry.{SidEntry}
use Rattle.net_model.specs.Network.{Network}
use Rattle.net_flatness.specs.Nests.{MayFollow}
use Rattle.list_pack.specs.declared.types.Container.{Container}
use Rattle.list_pack.specs.declared.types.Cost.{Cost}
use Rattle.list_pack.specs.declared.types.PathStep.{PathStep}
use Rattle.list_pack.specs.declared.types.Shape.{Shape}
use Rattle.list_pack.specs.LegsValue.{LegsValue}
use Rattle.list_pack.specs.LegsValueTerms.{IsSid}
use Rattle.list_pack.specs.Costs.{Move, cost_of, start}
use Rattle.list_pack.specs.Least.{step_of}
use Rattle.list_pack.specs.Paths.{cost_with}
use Rattle.list_pack.specs.PathsTerms.{SuitsLists}
use Rattle.list_pack.specs.PathLists.{list_of, IsListOfPath}
use Rattle.list_pack.specs.SidLists.{IsLegalList, block_at, list_sid, prefixes_in, steps_in}

-- what a search sees of a SID is what it is in the network: its prefix, the number of its block, how many bits that shares, and how the SID
-- is compressed; what the prefix has after those bits is its CSID
pub record IsShapeOf (net : Network) (s : SidEntry) (shape : Shape) : Type 0 where
  pub prefix : shape.prefix ≡ s.prefix
  pub block : shape.block ≡ block_at net.blocks s.prefix
  pub lbl : shape.lbl ≡ s.block_len
  pub csid : shape.csid ≡ s.csid

-- each SID of the legs is one of the network, with its shape and its node
abbrev pub AreSidsOf : LegsValue → Network → Type 0
AreSidsOf v net =
    (n : ℕ) → IsSid v n
    → (s : SidEntry) × (slice_get net.sids n ≡ Some s) × IsShapeOf net s (v.shape n) × (s.node ≡ v.node n)

-- the list of a path is legal, has the path's steps and containers, realizes with the path's hops as its need, and all its SIDs are
-- executed
pub record IsRealized (net : Network) (Realizes Executes : List Container → ℕ → Type 0) (path : List PathStep) (c : Cost) : Type 0 where
  pub of_path : IsListOfPath net path c.containers
  pub legal : IsLegalList net (list_of net path)
  pub realizes : Realizes (list_of net path) c.hops
  pub executes : Executes (list_of net path) (length (prefixes_in (list_of net path)))

-- a path of as many containers as a list has, of no more SIDs, and of no more hops than its need; where all SIDs of the list are executed
-- it has the list's steps, and its hops are the need
pub record IsPathOf (v : LegsValue) (Executes : List Container → ℕ → Type 0) (list : List Container) (need : ℕ) : Type 0 where
  pub moves : List Move
  pub hops : ℕ
  pub cost : cost_of v start moves ≡ Some (cost_with (length list) (v.sid_cost * length moves) hops)
  pub sids : length moves ≤ length (prefixes_in list)
  pub within : hops ≤ need
  pub whole : Executes list (length (prefixes_in list)) → (map (step_of v) moves ≡ steps_in list) × (hops ≡ need)

-- a path of as many containers as a list has, of no more SIDs, and of fewer hops than the hop limit at which the list hands over
pub record IsPathBelow (v : LegsValue) (list : List Container) (hop : ℕ) : Type 0 where
  pub moves : List Move
  pub hops : ℕ
  pub cost : cost_of v start moves ≡ Some (cost_with (length list) (v.sid_cost * length moves) hops)
  pub sids : length moves ≤ length (prefixes_in list)
  pub below : hops < hop

-- by a relation that says that a list realizes with a need, one that says that as many SIDs of a list are executed, and one that says that
-- a list hands over even one packet at a hop limit: the SIDs are those of the network, in its blocks and with the flavours of their
-- prefixes, each path is a legal list that realizes with the path's cost, each legal list that realizes has a path of no greater cost, and
-- each that hands over even one packet a path of fewer hops
pub record Means (v : LegsValue) (net : Network) (Realizes Executes Hands : List Container → ℕ → Type 0) : Type 0 where
  pub sids : AreSidsOf v net
  pub suits : SuitsLists v (list_sid net) (MayFollow net)
  pub lists : (moves : List Move) (c : Cost) → cost_of v start moves ≡ Some c → IsRealized net Realizes Executes (map (step_of v) moves) c
  pub paths : (list : List Container) (need : ℕ) → IsLegalList net list → Realizes list need → IsPathOf v Executes list need
  pub handing : (list : List Container) (hop : ℕ) → IsLegalList net list → Hands list hop → IsPathBelow v list hop
