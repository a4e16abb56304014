-- Segment lists of a network's SIDs: containers of their prefixes, and which lists are legal (own profile of RFC 9800 sections 6.2 to 6.4).
use Rattle.std.specs.Prelude.{◌≡◌, ℕ, true, false, ◌==◌, if◌then◌else◌, length, List, [], ◌∷◌, map, position, slice_get, Option, Some, All}
use Rattle.std.specs.List.{filter, flat_map}
use Rattle.std.specs.Option.{option_map}
use Rattle.v6_addr.specs.Address.{PrefixValue, is_inside}
use Rattle.srv6_rules.specs.declared.sid.Csid.{Csid}
use Rattle.srv6_rules.specs.declared.sid.Csid.TheVariants as csids
use Rattle.srv6_rules.specs.declared.sid.SidEntry.{SidEntry}
use Rattle.srv6_rules.specs.Behaviours.{goes_on}
use Rattle.net_model.specs.declared.parts.Block.{Block}
use Rattle.net_model.specs.declared.parts.BlockKind.{BlockKind}
use Rattle.net_model.specs.declared.parts.BlockKind.TheVariants as kinds
use Rattle.net_model.specs.Network.{Network}
use Rattle.net_model.specs.NetworkRules.{same_prefix, block_of}
use Rattle.sid_list_spec.specs.SegmentLists as lists
use Rattle.sid_list_spec.specs.SegmentLists.{ListSid, SidBlock, IsLegal, values_of}
use Rattle.net_flatness.specs.Nests.{MayFollow}
use Rattle.list_pack.specs.declared.types.PathStep.{PathStep}
use Rattle.list_pack.specs.declared.types.Container.{Container}
use Rattle.list_pack.specs.declared.types.Container.TheVariants as containers

-- ---- SIDs of a network as lists know them

-- the flavour of a block's SIDs
abbrev pub kind_csid : BlockKind → Csid
kind_csid kinds.Next = csids.Next
kind_csid kinds.Replace = csids.Replace

abbrev pub sid_block : Block → SidBlock
sid_block b = record { prefix = b.prefix; kind = kind_csid b.kind; csid_len = b.csid }

-- of two flavours the first that is one
abbrev pub either_csid : Csid → Csid → Csid
either_csid csids.Plain other = other
either_csid csids.Next other = csids.Next
either_csid csids.Replace other = csids.Replace

-- the first flavour among SIDs, if one has any; in a flat network those on one prefix that go on have the same
abbrev pub csid_among : List SidEntry → Csid
csid_among [] = csids.Plain
csid_among (s ∷ ss) = either_csid s.csid (csid_among ss)

-- the SIDs on a prefix, and those of them from which packets go on to a next segment
abbrev pub on_prefix : List SidEntry → PrefixValue → List SidEntry
on_prefix sids p = filter (λ s. same_prefix s.prefix p) sids

abbrev pub going_on : List SidEntry → List SidEntry
going_on sids = filter goes_on sids

-- the flavour of a prefix: that of the SIDs on it that go on; where there is none, that of those that decapsulate
abbrev pub csid_on : List SidEntry → Csid
csid_on sids = if length (going_on sids) == 0 then csid_among sids else csid_among (going_on sids)

abbrev pub prefix_csid : Network → PrefixValue → Csid
prefix_csid net p = csid_on (on_prefix net.sids p)

-- a prefix as a SID of lists
abbrev pub list_sid : Network → PrefixValue → ListSid
list_sid net p = record { prefix = p; block = option_map sid_block (block_of net.blocks p); csid = prefix_csid net p }

-- the number of the block that a prefix lies strictly inside, if it lies in one
abbrev pub block_at : List Block → PrefixValue → Option ℕ
block_at blocks p = position (λ b. is_inside p b.prefix) blocks

-- ---- lists

-- a container of prefixes, with the SIDs that the prefixes are
abbrev pub container_in : Network → Container → lists.Container
container_in net (containers.Full first more) = lists.Full (list_sid net first) (map (list_sid net) more)
container_in net (containers.Packed first more) = lists.Packed (list_sid net first) (map (list_sid net) more)

abbrev pub list_in : Network → List Container → List lists.Container
list_in net list = map (container_in net) list

-- the prefixes of a container, and those of a list, in the order in which they are visited
abbrev pub prefixes_of : Container → List PrefixValue
prefixes_of (containers.Full first more) = first ∷ more
prefixes_of (containers.Packed first more) = first ∷ more

abbrev pub prefixes_in : List Container → List PrefixValue
prefixes_in list = flat_map prefixes_of list

-- a prefix is that of a SID of the network
abbrev pub IsSidPrefix : Network → PrefixValue → Type 0
IsSidPrefix net p = (n : ℕ) × (s : SidEntry) × (slice_get net.sids n ≡ Some s) × (s.prefix ≡ p)

-- prefixes of which each may come directly after the one before it
abbrev pub FollowOn : (PrefixValue → PrefixValue → Type 0) → PrefixValue → List PrefixValue → Type 0
FollowOn Follows p [] = Unit {0}
FollowOn Follows p (q ∷ qs) = Follows p q × FollowOn Follows q qs

abbrev pub FollowIn : (PrefixValue → PrefixValue → Type 0) → Container → Type 0
FollowIn Follows (containers.Full first more) = FollowOn Follows first more
FollowIn Follows (containers.Packed first more) = Unit {0}

-- in a full container each further SID may come directly after the one before it; the address would else be that of a SID nested in it
abbrev pub KeepsNests : Network → Container → Type 0
KeepsNests net c = FollowIn (MayFollow net) c

-- a legal list of a network: it keeps the rules of lists, its prefixes are those of SIDs, and it keeps the rule on nested SIDs
pub record IsLegalList (net : Network) (list : List Container) : Type 0 where
  pub rules : IsLegal (list_in net list)
  pub named : All (IsSidPrefix net) (prefixes_in list)
  pub nests : All (KeepsNests net) list

-- the segments of a list, in the order in which they are visited
abbrev pub list_values : Network → List Container → List ℕ
list_values net list = values_of (list_in net list)

-- ---- a list as the steps of a path: the first SID of a container opens it, the others stay

abbrev pub opens : PrefixValue → PathStep
opens p = record { stays = false; prefix = p }

abbrev pub stays : PrefixValue → PathStep
stays p = record { stays = true; prefix = p }

abbrev pub steps_of : Container → List PathStep
steps_of (containers.Full first more) = opens first ∷ map stays more
steps_of (containers.Packed first more) = opens first ∷ map stays more

abbrev pub steps_in : List Container → List PathStep
steps_in list = flat_map steps_of list
