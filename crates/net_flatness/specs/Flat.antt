-- Flat networks, over which lists are compiled.
use Rattle.std.specs.Prelude.{◌+◌, ◌-◌, ◌%◌, Bool, true, false, ◌==◌, ◌&&◌, ◌||◌, not, nat_le, List, [], ◌∷◌, ◌++◌, map, find, Option, Some, None, Result, Ok, Err, ◌≡◌, ◌≢◌, ◌⊎◌, ℕ, ◌≤◌, Contains}
use Rattle.std.specs.List.{filter}
use Rattle.v6_addr.specs.Address.{PrefixValue, holds_address, is_inside, Holds, IsInside}
use Rattle.srv6_rules.specs.declared.sid.Csid.{Csid}
use Rattle.srv6_rules.specs.declared.sid.Csid.TheVariants as csids
use Rattle.srv6_rules.specs.declared.family.Family.TheVariants as families
use Rattle.srv6_rules.specs.declared.sid.SidEntry.{SidEntry}
use Rattle.srv6_rules.specs.Behaviours.{goes_on}
use Rattle.srv6_rules.specs.Compressed.{csid_of}
use Rattle.srv6_rules.specs.CompressedSteps.{is_next}
use Rattle.net_model.specs.declared.limits.TheConstants.{BLOCK_UNIT}
use Rattle.net_model.specs.declared.parts.Block.{Block}
use Rattle.net_model.specs.declared.parts.BlockKind.{BlockKind}
use Rattle.net_model.specs.declared.parts.BlockKind.TheVariants as kinds
use Rattle.net_model.specs.declared.parts.Node.{Node}
use Rattle.net_model.specs.declared.parts.Route.{Route}
use Rattle.net_flatness.specs.declared.not_flat.NotFlat.{NotFlat}
use Rattle.net_flatness.specs.declared.not_flat.NotFlat.TheVariants.{Nested, ZeroCsid, MixedBlock, Clash}
use Rattle.net_model.specs.Network.{Network}
use Rattle.net_model.specs.NetworkRules.{same_family, same_prefix}
use Rattle.net_flatness.specs.NestTests.{is_nest}
use Rattle.net_flatness.specs.Nests.{IsNest}

-- ---- what a flat network has none of: pairs of an outer and an inner item

-- an entry that may lie inside a SID: a SID, a route of IPv6 of any table, or a node's address
pub data InnerEntry : Type 0 where
  OfSid : SidEntry → InnerEntry
  OfRoute : Route → InnerEntry
  OfAddress : Node → InnerEntry

-- an address as a prefix of all its bits
abbrev pub address_prefix : Node → PrefixValue
address_prefix n = record { value = n.address.value; len = 128 }

abbrev pub entry_prefix : InnerEntry → PrefixValue
entry_prefix (OfSid s) = s.prefix
entry_prefix (OfRoute r) = r.prefix
entry_prefix (OfAddress n) = address_prefix n

abbrev pub is_ipv6_route : Route → Bool
is_ipv6_route r = same_family r.family families.V6

-- all SIDs, then the IPv6 routes of all tables, then the nodes, each in the order of the description
abbrev pub inner_entries : Network → List InnerEntry
inner_entries net = map OfSid net.sids ++ (map OfRoute (filter is_ipv6_route net.routes) ++ map OfAddress net.nodes)

-- ---- the same as tests, one after the other

abbrev pub is_nested : Network → SidEntry → InnerEntry → Bool
is_nested net outer (OfSid inner) = is_inside inner.prefix outer.prefix && not (is_nest net outer inner)
is_nested net outer (OfRoute inner) = is_inside inner.prefix outer.prefix
is_nested net outer (OfAddress inner) = is_inside (address_prefix inner) outer.prefix

abbrev pub is_zero_in : SidEntry → Block → Bool
is_zero_in s b = is_inside s.prefix b.prefix && (csid_of b.prefix.len s.prefix == 0)

abbrev pub has_wrong_length : BlockKind → Block → SidEntry → Bool
has_wrong_length kinds.Next b s = not (is_next s.csid) && not (((s.prefix.len - b.prefix.len) % BLOCK_UNIT) == 0)
has_wrong_length kinds.Replace b s = not (s.prefix.len == b.prefix.len + b.csid)

abbrev pub is_mixed : Block → SidEntry → Bool
is_mixed b s =
    (nat_le s.prefix.len b.prefix.len && holds_address s.prefix b.prefix.value)
    || (is_inside s.prefix b.prefix && has_wrong_length b.kind b s)

abbrev pub same_csid : Csid → Csid → Bool
same_csid csids.Plain csids.Plain = true
same_csid csids.Plain csids.Next = false
same_csid csids.Plain csids.Replace = false
same_csid csids.Next csids.Plain = false
same_csid csids.Next csids.Next = true
same_csid csids.Next csids.Replace = false
same_csid csids.Replace csids.Plain = false
same_csid csids.Replace csids.Next = false
same_csid csids.Replace csids.Replace = true

abbrev pub is_clash : SidEntry → SidEntry → Bool
is_clash s t = not (s.node == t.node) && (same_prefix s.prefix t.prefix && (goes_on s && (goes_on t && not (same_csid s.csid t.csid))))

abbrev pub nested : SidEntry → InnerEntry → NotFlat
nested s inner = Nested s.prefix (entry_prefix inner)

abbrev pub zero_csid : SidEntry → Block → NotFlat
zero_csid s b = ZeroCsid s.prefix

abbrev pub mixed_block : Block → SidEntry → NotFlat
mixed_block b s = MixedBlock b.prefix s.prefix

abbrev pub clash : SidEntry → SidEntry → NotFlat
clash s t = Clash s.prefix s.node t.node

abbrev pub pair_or : {X Y : Type 0} → (X → Y → NotFlat) → X → Option Y → Result (Unit {0}) NotFlat → Result (Unit {0}) NotFlat
pair_or why outer None later = later
pair_or why outer (Some inner) later = Err (why outer inner)

-- the refusal of the first pair, by the outer item's and then by the inner one's place
abbrev pub first_pair : {X Y : Type 0} → (X → Y → Bool) → (X → Y → NotFlat) → List Y → List X → Result (Unit {0}) NotFlat
first_pair test why inners [] = Ok tt
first_pair test why inners (outer ∷ outers) = pair_or why outer (find (test outer) inners) (first_pair test why inners outers)

abbrev pub or_later : Result (Unit {0}) NotFlat → Result (Unit {0}) NotFlat → Result (Unit {0}) NotFlat
or_later (Ok accepted) later = later
or_later (Err why) later = Err why

abbrev pub no_nested : Network → Result (Unit {0}) NotFlat
no_nested net = first_pair (is_nested net) nested (inner_entries net) net.sids

abbrev pub no_zero : Network → Result (Unit {0}) NotFlat
no_zero net = first_pair is_zero_in zero_csid net.blocks net.sids

abbrev pub no_mixed : Network → Result (Unit {0}) NotFlat
no_mixed net = first_pair is_mixed mixed_block net.sids net.blocks

abbrev pub no_clash : Network → Result (Unit {0}) NotFlat
no_clash net = first_pair is_clash clash net.sids net.sids

-- whether a network of which nothing is hidden is flat, or its first refusal
abbrev pub flatness_of : Network → Result (Unit {0}) NotFlat
flatness_of net = or_later (no_nested net) (or_later (no_zero net) (or_later (no_mixed net) (no_clash net)))

-- ---- what a flat network has none of: pairs of an outer and an inner item

-- the SID lies strictly inside the block, and its CSID is 0
abbrev pub IsZeroIn : SidEntry → Block → Type 0
IsZeroIn s b = IsInside s.prefix b.prefix × (csid_of b.prefix.len s.prefix ≡ 0)

-- some address is in both prefixes
abbrev pub Overlap : PrefixValue → PrefixValue → Type 0
Overlap p q = (a : ℕ) × Holds p a × Holds q a

-- the SID is not as long as SIDs of such a block are: in a REPLACE block it has other bits after the block's than a compressed SID
-- of the block; in a NEXT block it is not of NEXT-CSID, and its bits after the block's are no multiple of BLOCK_UNIT
abbrev pub HasWrongLength : BlockKind → Block → SidEntry → Type 0
HasWrongLength kinds.Next b s = (s.csid ≢ csids.Next) × ((s.prefix.len - b.prefix.len) % BLOCK_UNIT ≢ 0)
HasWrongLength kinds.Replace b s = s.prefix.len ≢ b.prefix.len + b.csid

-- the SID's prefix overlaps the block and is no longer than it, or lies strictly inside it with a wrong length
abbrev pub IsMixed : Block → SidEntry → Type 0
IsMixed b s = ((s.prefix.len ≤ b.prefix.len) × Overlap s.prefix b.prefix) ⊎ (IsInside s.prefix b.prefix × HasWrongLength b.kind b s)

-- SIDs of two nodes on one prefix, both of which make the next segment the destination, are compressed in two ways
pub record IsClash (s t : SidEntry) : Type 0 where
  pub nodes : s.node ≢ t.node
  pub prefix : s.prefix ≡ t.prefix
  pub first : goes_on s ≡ true
  pub second : goes_on t ≡ true
  pub csid : s.csid ≢ t.csid

-- ---- flat

-- no entry lies strictly inside the prefix of a SID, but for SIDs that are nested in it
pub record NoneNested (net : Network) : Type 0 where
  pub sids : (s t : SidEntry) → Contains net.sids s → Contains net.sids t → IsInside t.prefix s.prefix → IsNest net s t
  pub routes : (s : SidEntry) (r : Route) → Contains net.sids s → Contains net.routes r → r.family ≡ families.V6
      → ¬ IsInside r.prefix s.prefix
  pub addresses : (s : SidEntry) (n : Node) → Contains net.sids s → Contains net.nodes n → ¬ IsInside (address_prefix n) s.prefix

-- no SID of a block has the CSID 0
abbrev pub NoneZero : Network → Type 0
NoneZero net = (s : SidEntry) (b : Block) → Contains net.sids s → Contains net.blocks b → ¬ IsZeroIn s b

-- no SID overlaps a block and is no longer than it, or has a wrong length in it
abbrev pub NoneMixed : Network → Type 0
NoneMixed net = (b : Block) (s : SidEntry) → Contains net.blocks b → Contains net.sids s → ¬ IsMixed b s

-- no prefix has SIDs of two compressions that make the next segment the destination
abbrev pub NoneClash : Network → Type 0
NoneClash net = (s t : SidEntry) → Contains net.sids s → Contains net.sids t → ¬ IsClash s t

-- lists are compiled over networks of which nothing is hidden
pub record IsFlat (net : Network) : Type 0 where
  pub whole : net.hidden ≡ []
  pub nested : NoneNested net
  pub zero : NoneZero net
  pub mixed : NoneMixed net
  pub clash : NoneClash net
