-- Need not be believed: helps proofs and other laws.
-- Terms beside those of `sid_list_spec/specs/SegmentLists.antt`.
use Rattle.std.specs.Prelude.{◌≡◌, ◌+◌, ◌-◌, List, [], ◌∷◌, ◌++◌, All, Option, Some, None, ◌⊎◌}
use Rattle.v6_addr.specs.AddressTerms.{IsPrefix}
use Rattle.srv6_rules.specs.declared.sid.Csid.TheVariants.{Plain, Replace}
use Rattle.srv6_rules.specs.declared.compression.Compression.{Compression}
use Rattle.srv6_rules.specs.CompressedTerms.{IsSidOf, IsReplaceSid}
use Rattle.sid_list_spec.specs.SegmentLists.{SidBlock, ListSid, block_len, csid_len, Container, Full, Packed}

-- how a SID is compressed
abbrev pub compression : ListSid → Compression
compression s = record { kind = s.csid; prefix_len = s.prefix.len; block_len = block_len s.block }

-- ---- containers

-- the SIDs of a container, in the order in which they are visited
abbrev pub sids_of : Container → List ListSid
sids_of (Full s ss) = s ∷ ss
sids_of (Packed s ss) = s ∷ ss

-- the SIDs of a list in that order
abbrev pub sids_in : List Container → List ListSid
sids_in [] = []
sids_in (c ∷ cs) = sids_of c ++ sids_in cs

-- ---- what a flat network adds

-- a SID in a block: it lies strictly inside, and its CSID isn't 0; if it is compressed it is as the block's SIDs are; and in a REPLACE
-- block it has a CSID as long as the block's
pub record IsInBlock (b : SidBlock) (s : ListSid) : Type 0 where
  pub sid_of : IsSidOf b.prefix s.prefix
  pub kind : (s.csid ≡ Plain) ⊎ (s.csid ≡ b.kind)
  pub packed : b.kind ≡ Replace → IsReplaceSid b.prefix b.csid_len s.prefix

-- a SID suits the block that it lies in; one in none is not compressed
abbrev pub SuitsBlock : Option SidBlock → ListSid → Type 0
SuitsBlock None s = s.csid ≡ Plain
SuitsBlock (Some b) s = IsInBlock b s

-- a SID as a flat network has it
pub record IsFlatSid (s : ListSid) : Type 0 where
  pub prefix : IsPrefix s.prefix
  pub block : SuitsBlock s.block s

-- containers, and lists, of such SIDs
abbrev pub IsFlatContainer : Container → Type 0
IsFlatContainer c = All IsFlatSid (sids_of c)

abbrev pub IsFlatList : List Container → Type 0
IsFlatList cs = All IsFlatContainer cs
