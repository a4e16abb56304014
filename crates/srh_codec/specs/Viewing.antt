-- Need not be believed: helps proofs and other laws.
-- The segment routing header that a view shows (RFC 8754 section 2).
use Rattle.std.specs.Prelude.{◌≡◌, ◌+◌, ◌*◌, ◌^◌, ◌<◌, length, slice_index, All}
use Rattle.srv6_rules.specs.declared.numbers.TheConstants.{EXTENSION_UNIT, EXTENSION_LEN_AT}
use Rattle.srv6_rules.specs.Srh.{Srh, srh_of}
use Rattle.srh_codec.specs.declared.view.SrhView.TheInside.{Inside}

abbrev pub viewed : Inside → Srh
viewed v = srh_of v.bytes.now

-- the bytes are those of one header, from its first to its last
pub record IsOneHeader (v : Inside) : Type 0 where
  pub stated : length v.bytes.now ≡ EXTENSION_UNIT * (slice_index v.bytes.now EXTENSION_LEN_AT + 1)
  pub in_range : All (λ b. b < 2 ^ 8) v.bytes.now
