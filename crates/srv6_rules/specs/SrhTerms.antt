-- Need not be believed: helps proofs and other laws.
-- Terms beside those of `specs/Srh.antt`.
use Rattle.std.specs.Prelude.{◌≡◌, ◌*◌, ◌^◌, ◌<◌, length, All}
use Rattle.srv6_rules.specs.declared.numbers.TheConstants.{EXTENSION_UNIT}
use Rattle.srv6_rules.specs.Srh.{Srh}

-- the headers that bytes can spell
pub record IsSrhSpellable (s : Srh) : Type 0 where
  pub next_header : s.next_header < 2 ^ 8
  pub extension_len : s.extension_len < 2 ^ 8
  pub segments_left : s.segments_left < 2 ^ 8
  pub last_entry : s.last_entry < 2 ^ 8
  pub flags : s.flags < 2 ^ 8
  pub tag : s.tag < 2 ^ 16
  pub body_len : length s.body ≡ EXTENSION_UNIT * s.extension_len
  pub body : All (λ b. b < 2 ^ 8) s.body
