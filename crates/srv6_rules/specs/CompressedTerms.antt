-- Need not be believed: helps proofs and other laws.
-- Terms beside those of `specs/Compressed.antt`.
use Rattle.std.specs.Prelude.{◌≡◌, ◌≢◌, ◌⊎◌, ℕ, ◌+◌, ◌-◌, ◌≤◌, List, [], ◌∷◌}
use Rattle.v6_addr.specs.Address.{PrefixValue, IsInside}
use Rattle.v6_addr.specs.AddressTerms.{IsPrefix}
use Rattle.srv6_rules.specs.Compressed.{csid_of}

-- a SID strictly inside a block, whose CSID isn't 0
pub record IsSidOf (block sid : PrefixValue) : Type 0 where
  pub prefix : IsPrefix sid
  pub inside : IsInside sid block
  pub some : csid_of block.len sid ≢ 0

-- ---- NEXT-CSID (RFC 9800 section 4.1)

-- SIDs of one block whose CSIDs find room in so many bits
abbrev pub FitIn : PrefixValue → ℕ → List PrefixValue → Type 0
FitIn block room [] = Unit {0}
FitIn block room (s ∷ ss) = IsSidOf block s × (s.len - block.len ≤ room) × FitIn block (room - (s.len - block.len)) ss

-- SIDs of one block that find room in one container
abbrev pub IsContainer : PrefixValue → List PrefixValue → Type 0
IsContainer block sids = FitIn block (128 - block.len) sids

-- ---- REPLACE-CSID (RFC 9800 section 4.2)

-- CSIDs have 16 or 32 bits
abbrev pub IsCsidLen : ℕ → Type 0
IsCsidLen csid_len = (csid_len ≡ 16) ⊎ (csid_len ≡ 32)

-- a SID whose CSID has so many bits, after which there are at least the 3 bits of the greatest index
pub record IsReplaceSid (block : PrefixValue) (csid_len : ℕ) (sid : PrefixValue) : Type 0 where
  pub sid_of : IsSidOf block sid
  pub len : sid.len ≡ block.len + csid_len
  pub csid : IsCsidLen csid_len
  pub behind : sid.len ≤ 125
