-- Need not be believed: helps proofs and other laws.
-- Paths of states as lists of containers: each step that opens a container makes one, of its SID and of those that stay in it.
use Rattle.std.specs.Prelude.{◌≡◌, ℕ, ◌+◌, ◌*◌, if◌then◌else◌, List, [], ◌∷◌, ◌++◌, length, map, take, Option, Some, None, All}
use Rattle.v6_addr.specs.Address.{PrefixValue}
use Rattle.net_model.specs.Network.{Network}
use Rattle.sid_list_spec.specs.SegmentLists as lists
use Rattle.sid_list_spec.specs.SegmentLists.{ListSid, SidBlock, IsLegal, last_of, asked_behind, asked_behind_packed}
use Rattle.list_pack.specs.declared.types.PathStep.{PathStep}
use Rattle.list_pack.specs.declared.types.Container.{Container}
use Rattle.list_pack.specs.declared.types.Container.TheVariants.{Full, Packed}
use Rattle.list_pack.specs.LegsValue.{LegsValue}
use Rattle.list_pack.specs.Costs.{Move, cost_of, start}
use Rattle.list_pack.specs.Least.{step_of}
use Rattle.list_pack.specs.Paths.{cost_with}
use Rattle.list_pack.specs.PathsTerms.{sids_of_moves}
use Rattle.list_pack.specs.SidLists.{list_sid, list_in, prefixes_of, steps_in, KeepsNests}

-- a container of prefixes, with the SIDs that the prefixes are
abbrev pub container_by : (PrefixValue → ListSid) → Container → lists.Container
container_by sid_on (Full first more) = lists.Full (sid_on first) (map sid_on more)
container_by sid_on (Packed first more) = lists.Packed (sid_on first) (map sid_on more)

-- the prefixes of the steps that stay in the container that is open, up to the first step that opens one
abbrev pub staying : List PathStep → List PrefixValue
staying [] = []
staying (p ∷ ps) = if p.stays then p.prefix ∷ staying ps else []

-- a container where a REPLACE container of a block has to come, or a full one
abbrev pub container_as : Option SidBlock → PrefixValue → List PrefixValue → Container
container_as None first more = Full first more
container_as (Some b) first more = Packed first more

-- the block whose REPLACE container has to follow such a container of SIDs, if one has to
abbrev pub asked_after : Option SidBlock → ListSid → List ListSid → Option SidBlock
asked_after None s ss = asked_behind (last_of s ss)
asked_after (Some b) s ss = asked_behind_packed (Some b) (length (s ∷ ss)) (last_of s ss)

-- the containers that the steps of a path open
abbrev pub list_from : (PrefixValue → ListSid) → Option SidBlock → List PathStep → List Container
list_from sid_on asked [] = []
list_from sid_on asked (p ∷ ps) =
    (if p.stays then [] else container_as asked p.prefix (staying ps) ∷ [])
    ++ list_from sid_on (if p.stays then asked else asked_after asked (sid_on p.prefix) (map sid_on (staying ps))) ps

-- the list of a path; its first container is full
abbrev pub list_of : Network → List PathStep → List Container
list_of net path = list_from (list_sid net) None path

-- the list of a path keeps the rules of lists and the one on nested SIDs, it has the path's steps, and as many containers
pub record IsListOfPath (net : Network) (path : List PathStep) (containers : ℕ) : Type 0 where
  pub legal : IsLegal (list_in net (list_of net path))
  pub nests : All (KeepsNests net) (list_of net path)
  pub steps : steps_in (list_of net path) ≡ path
  pub count : length (list_of net path) ≡ containers

-- how many SIDs stand before the last container of a list
abbrev pub before_last : List Container → ℕ
before_last [] = 0
before_last (c ∷ []) = 0
before_last (c ∷ d ∷ ds) = length (prefixes_of c) + before_last (d ∷ ds)

-- SIDs as the moves that steps say, as far as both go
abbrev pub moves_by : List ℕ → List PathStep → List Move
moves_by [] ps = []
moves_by (n ∷ ns) [] = []
moves_by (n ∷ ns) (p ∷ ps) = record { stays = p.stays; sid = n } ∷ moves_by ns ps

-- SIDs that are the first of a list's are a path along its steps, and it costs the list's containers, what so many SIDs cost, and so many
-- hops
pub record IsPathAlong (v : LegsValue) (list : List Container) (sids : List ℕ) (hops : ℕ) : Type 0 where
  pub moves : List Move
  pub sids_of : sids_of_moves moves ≡ sids
  pub cost : cost_of v start moves ≡ Some (cost_with (length list) (v.sid_cost * length sids) hops)
  pub steps : map (step_of v) moves ≡ take (length sids) (steps_in list)
