-- Need not be believed: helps proofs and other laws.
-- Terms beside those of `specs/Realizes.antt`.
use Rattle.std.specs.Prelude.{◌≡◌, ℕ, ◌<◌, ◌≤◌, List, [], ◌∷◌, length, map, take, Option, Some, None}
use Rattle.srv6_rules.specs.Packet.{Content}
use Rattle.net_model.specs.Network.{Network}
use Rattle.intent_reader.specs.declared.intent.Intent.{Intent}
use Rattle.list_pack.specs.declared.types.Container.{Container}
use Rattle.list_pack.specs.PathLists.{before_last}
use Rattle.list_pack.specs.PathsTerms.{with_hops}
use Rattle.list_pack.specs.SidLists.{prefixes_in, list_values}
use Rattle.leg_table.specs.PositionSids.{prefix_at}
use Rattle.leg_table.specs.StrictLegsTerms.{leg_of, finish_of}
use Rattle.leg_table.specs.Realizes.{HandsOver, AlwaysHandsOver}

-- ---- lists that realize an intent

-- wherever the segments hand over, as many SIDs are executed
abbrev pub Executes : Network → Intent → List ℕ → ℕ → Type 0
Executes net intent segments count =
    (inner : Content) (hop : ℕ) (choices : List ℕ) → (h : HandsOver net intent segments inner hop choices) → length h.handed.sids ≡ count

-- so it is of a list of containers, by its values

abbrev pub ListExecutes : Network → Intent → List Container → ℕ → Type 0
ListExecutes net intent list count = Executes net intent (list_values net list) count

-- they hand over even one inner packet at one outer hop limit, for every list of choices
pub record HandsSome (net : Network) (intent : Intent) (segments : List ℕ) (hop : ℕ) : Type 0 where
  pub positive : 0 < hop
  pub inner : Content
  pub always : AlwaysHandsOver net intent segments inner hop

abbrev pub ListHands : Network → Intent → List Container → ℕ → Type 0
ListHands net intent list hop = HandsSome net intent (list_values net list) hop

-- ---- paths of legs

-- the lowerings of the path of legs and a finish through these SIDs, if it is one, from a position and the SID that was
-- executed last
abbrev pub path_need : Network → Intent → ℕ → Option ℕ → List ℕ → Option ℕ
path_need net intent position via [] = None
path_need net intent position via (n ∷ []) = finish_of net intent position via n
path_need net intent position via (n ∷ m ∷ more) =
    with_hops (leg_of net intent position via n) (λ to. path_need net intent to (Some n) (m ∷ more))

-- a path of legs and a finish from the start along a list: its SIDs are of the first prefixes of the list, up to one in the last
-- container, and its need
pub record IsPathAlong (net : Network) (intent : Intent) (list : List Container) (sids : List ℕ) (need : ℕ) : Type 0 where
  pub is_path : path_need net intent 0 None sids ≡ Some need
  pub names : map (prefix_at net) sids ≡ take (length sids) (prefixes_in list)
  pub few : length sids ≤ length (prefixes_in list)
  pub last : before_last list < length sids
