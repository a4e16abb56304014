-- The blocks of a network in bits.
use Rattle.std.proofs.Common.{◌≡◌, ◌⊎◌, inl, inr, ℕ, ◌<◌, Some, slice_get, arith}
use Rattle.net_model.specs.declared.limits.TheConstants.{SHORT_CSID, LONG_CSID}
use Rattle.net_model.specs.declared.parts.Block.{Block}
use Rattle.net_model.specs.Network.{Network}
use Rattle.net_model.specs.NetworkKeeps.{Keeps}
use Rattle.srv6_rules.specs.CompressedTerms.{IsCsidLen}
use Rattle.segment_reading.specs.Readings.{IsSized}

csid_len_of : (n : ℕ) → (n ≡ SHORT_CSID) ⊎ (n ≡ LONG_CSID) → IsCsidLen n
csid_len_of n (inl e) = inl (e)
csid_len_of n (inr e) = inr (e)

pub block_is_sized : (net : Network) (n : ℕ) (b : Block) → Keeps net → slice_get net.blocks n ≡ Some b → IsSized b
block_is_sized net n b keeps at =
    let k = keeps.block n b at in
    let short = k.at_most in
    record { csid = csid_len_of b.csid k.csid; short = omega (arith, short) }

pub csid_some : (n : ℕ) → IsCsidLen n → 0 < n
csid_some n (inl e) = omega (arith, e)
csid_some n (inr e) = omega (arith, e)
