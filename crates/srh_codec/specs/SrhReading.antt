-- Need not be believed: helps proofs and other laws.
-- How bytes read as a segment routing header (RFC 8754 section 2).
use Rattle.std.specs.Prelude.{◌≡◌, ℕ, true, false, List, take, slice_index, Result, Ok, Err}
use Rattle.srv6_rules.specs.Chain.{routing, extension_bytes, is_whole}
use Rattle.srv6_rules.specs.Srh.{Srh, srh_of, srh_spelling, segment_routing, routing_type_at}
use Rattle.srv6_rules.specs.SrhTerms.{IsSrhSpellable}
use Rattle.ip6_headers.specs.declared.chain.BadChain.{BadChain}

-- the bytes begin with a whole header of this value, which bytes can spell; where its routing type is that of segment
-- routing the header's bytes are the value's spelling
pub record BeginsWith (bytes : List ℕ) (s : Srh) : Type 0 where
  pub whole : is_whole routing bytes ≡ true
  pub value : s ≡ srh_of bytes
  pub spellable : IsSrhSpellable s
  pub spelled : slice_index bytes routing_type_at ≡ segment_routing → srh_spelling s ≡ take (extension_bytes routing bytes) bytes

-- a header is read where the whole of it is there, and refused exactly where it is cut
abbrev pub IsRead : List ℕ → Result Srh BadChain → Type 0
IsRead bytes (Ok s) = BeginsWith bytes s
IsRead bytes (Err cut) = is_whole routing bytes ≡ false
