-- Segment lists over compressed SIDs: containers of 16 bytes, each of whole SIDs or of CSIDs, their values (RFC 9800 sections 4.1 and 4.2),
-- and which lists are legal (sections 6.2 to 6.4). Lengths count bits, and an address has 128.
use Rattle.std.specs.Prelude.{◌≡◌, ℕ, ◌+◌, ◌-◌, ◌≤◌, ◌==◌, if◌then◌else◌, List, [], ◌∷◌, length, map, All, Option, Some, None}
use Rattle.v6_addr.specs.Address.{PrefixValue}
use Rattle.srv6_rules.specs.declared.sid.Csid.{Csid}
use Rattle.srv6_rules.specs.declared.sid.Csid.TheVariants.{Next, Replace}
use Rattle.srv6_rules.specs.Compressed.{csid_of, csid_count, container_of, packed_entry}
use Rattle.srv6_rules.specs.CompressedSteps.{is_replace}

-- a block (RFC 9800 section 3): its prefix, the flavour that its SIDs may have, NEXT or REPLACE, and the length of the CSIDs of a REPLACE
-- block
pub record SidBlock : Type 0 where
  pub prefix : PrefixValue
  pub kind : Csid
  pub csid_len : ℕ

-- a SID as lists know it: its prefix, the block that this lies strictly inside, if it does in one, and the flavour of the prefix
pub record ListSid : Type 0 where
  pub prefix : PrefixValue
  pub block : Option SidBlock
  pub csid : Csid

-- the length of a block, and that of the CSIDs of a REPLACE block; 0 where there is none
abbrev pub block_len : Option SidBlock → ℕ
block_len None = 0
block_len (Some b) = b.prefix.len

abbrev pub csid_len_in : Option SidBlock → ℕ
csid_len_in None = 0
csid_len_in (Some b) = b.csid_len

-- the length of a SID's CSID
abbrev pub csid_len : ListSid → ℕ
csid_len s = s.prefix.len - block_len s.block

-- the bits that SIDs take in a full container, each after the one before it
abbrev pub csid_bits : List ListSid → ℕ
csid_bits [] = 0
csid_bits (s ∷ ss) = csid_len s + csid_bits ss

-- the last of SIDs that follow one
abbrev pub last_of : ListSid → List ListSid → ListSid
last_of s [] = s
last_of s (t ∷ ts) = last_of t ts

-- ---- containers

-- a container is full: a whole SID, and after it the CSIDs of others; or it is a REPLACE container, of CSIDs alone
pub data Container : Type 0 where
  Full : ListSid → List ListSid → Container
  Packed : ListSid → List ListSid → Container

abbrev pub prefix_of : ListSid → PrefixValue
prefix_of s = s.prefix

-- the value of a full container: its first SID, and directly after it the CSIDs of the others, one by one (RFC 9800 section 4.1)
abbrev pub full_value : ListSid → List ListSid → ℕ
full_value s ss = container_of (block_len s.block) (map prefix_of (s ∷ ss))

-- the value of a REPLACE container of CSIDs of a block: the first stands at the greatest index (RFC 9800 section 4.2)
abbrev pub packed_value : Option SidBlock → List ListSid → ℕ
packed_value block sids = packed_entry (csid_len_in block) (map (csid_of (block_len block)) (map prefix_of sids))

-- the 16-byte value of a container, as a number
abbrev pub value_of : Container → ℕ
value_of (Full s ss) = full_value s ss
value_of (Packed s ss) = packed_value s.block (s ∷ ss)

-- the values of a list: the segments in the order in which they are visited
abbrev pub values_of : List Container → List ℕ
values_of cs = map value_of cs

-- ---- legal lists, by the rules of lists alone (own profile of RFC 9800 sections 6.2 to 6.4)

-- all SIDs but the last have a flavour
abbrev pub HaveButLast : Csid → List ListSid → Type 0
HaveButLast kind [] = Unit {0}
HaveButLast kind (s ∷ []) = Unit {0}
HaveButLast kind (s ∷ t ∷ ts) = (s.csid ≡ kind) × HaveButLast kind (t ∷ ts)

-- a full container: further SIDs are of the first one's block, all but the last have NEXT-CSID, and the 128 bits suffice
pub record IsFull (s : ListSid) (ss : List ListSid) : Type 0 where
  pub one_block : All (λ (t : ListSid). t.block ≡ s.block) ss
  pub next : HaveButLast Next (s ∷ ss)
  pub fits : s.prefix.len + csid_bits ss ≤ 128

-- the CSIDs of a REPLACE container: they are of one block, all but the last have REPLACE-CSID, and there are no more than an entry has room
-- for
pub record IsPacked (block : Option SidBlock) (sids : List ListSid) : Type 0 where
  pub one_block : All (λ (t : ListSid). t.block ≡ block) sids
  pub replace : HaveButLast Replace sids
  pub few : length sids ≤ csid_count (csid_len_in block)

-- the block whose REPLACE container has to follow, if one has to: after a last SID with REPLACE-CSID, in a full container or in a REPLACE
-- container without room for more
abbrev pub asked_behind : ListSid → Option SidBlock
asked_behind last = if is_replace last.csid then last.block else None

abbrev pub asked_behind_packed : Option SidBlock → ℕ → ListSid → Option SidBlock
asked_behind_packed block count last = if count == csid_count (csid_len_in block) then asked_behind last else None

-- containers that may follow where a REPLACE container of a block has to come first, or a full one
abbrev pub Follow : Option SidBlock → List Container → Type 0
Follow asked [] = Unit {0}
Follow None (Full s ss ∷ cs) = IsFull s ss × Follow (asked_behind (last_of s ss)) cs
Follow None (Packed s ss ∷ cs) = ⊥
Follow (Some b) (Full s ss ∷ cs) = ⊥
Follow (Some b) (Packed s ss ∷ cs) =
    IsPacked (Some b) (s ∷ ss) × Follow (asked_behind_packed (Some b) (length (s ∷ ss)) (last_of s ss)) cs

-- a legal list: it isn't empty, and its first container is full
abbrev pub IsLegal : List Container → Type 0
IsLegal [] = ⊥
IsLegal (c ∷ cs) = Follow None (c ∷ cs)
