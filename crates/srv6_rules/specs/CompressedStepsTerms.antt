-- Need not be believed: helps proofs and other laws.
-- Terms beside those of `specs/CompressedSteps.antt`.
use Rattle.std.specs.Prelude.{◌≡◌, ℕ, ◌+◌, ◌-◌, ◌<◌, ◌≤◌, List, ◌++◌, length, map, take, drop, slice_set, All}
use Rattle.v6_addr.specs.Address.{PrefixValue}
use Rattle.srv6_rules.specs.declared.numbers.TheConstants.{HOP_LIMIT_AT, DESTINATION_AT}
use Rattle.srv6_rules.specs.declared.sid.Csid.{Csid}
use Rattle.srv6_rules.specs.declared.sid.Csid.TheVariants as kinds
use Rattle.srv6_rules.specs.declared.sid.SidEntry.{SidEntry}
use Rattle.srv6_rules.specs.declared.compression.Compression.{Compression}
use Rattle.srv6_rules.specs.Packet.{header_len, address_bytes}
use Rattle.srv6_rules.specs.Compressed.{csid_of, csid_count, packed_entry}
use Rattle.srv6_rules.specs.CompressedTerms.{IsCsidLen, IsReplaceSid}
use Rattle.srv6_rules.specs.CompressedSteps.{csid_len_of, compression_of}

-- a SID of NEXT-CSID: it is longer than its block
pub record IsNext (c : Compression) : Type 0 where
  pub kind : c.kind ≡ kinds.Next
  pub longer : c.block_len < c.prefix_len
  pub within : c.prefix_len ≤ 128

-- a SID of REPLACE-CSID
pub record IsReplace (c : Compression) : Type 0 where
  pub kind : c.kind ≡ kinds.Replace
  pub longer : c.block_len < c.prefix_len
  pub within : c.prefix_len ≤ 128
  pub csid_len : IsCsidLen (csid_len_of c)

-- a compression suits its lengths
abbrev pub SuitsKind : Csid → Compression → Type 0
SuitsKind kinds.Plain c = Unit {0}
SuitsKind kinds.Next c = IsNext c
SuitsKind kinds.Replace c = IsReplace c

-- the compression of a SID suits the lengths of its prefix and its block
abbrev pub SuitsCompression : SidEntry → Type 0
SuitsCompression s = SuitsKind s.csid (compression_of s)

-- bytes with another hop limit and another destination in their header; each other byte is as it was
abbrev pub with_hop_and_destination : List ℕ → ℕ → ℕ → List ℕ
with_hop_and_destination bytes hop_limit destination =
    let lowered = slice_set bytes HOP_LIMIT_AT hop_limit in
    take DESTINATION_AT lowered ++ (address_bytes destination ++ drop header_len lowered)

-- ---- entries of CSIDs

-- an entry holds the CSIDs of SIDs of one block, which find room in it
pub record IsEntryOf (c : Compression) (block : PrefixValue) (sids : List PrefixValue) (entry : ℕ) : Type 0 where
  pub block_len : c.block_len ≡ block.len
  pub each : All (λ s. IsReplaceSid block (csid_len_of c) s) sids
  pub few : length sids ≤ csid_count (csid_len_of c)
  pub packed : entry ≡ packed_entry (csid_len_of c) (map (csid_of block.len) sids)

-- the index after so many CSIDs of an entry
abbrev pub index_behind : Compression → ℕ → ℕ
index_behind c count = csid_count (csid_len_of c) - 1 - count
