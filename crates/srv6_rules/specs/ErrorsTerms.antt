-- Need not be believed: helps proofs and other laws.
-- Terms beside those of `specs/Errors.antt`.
use Rattle.std.specs.Prelude.{◌^◌, ◌<◌}
use Rattle.srv6_rules.specs.declared.icmp.IcmpKind.{IcmpKind}
use Rattle.srv6_rules.specs.Errors.{code_of, last_word_of}

-- the errors whose code and last four bytes fit their bytes
abbrev pub IsKind : IcmpKind → Type 0
IsKind kind = (code_of kind < 2 ^ 8) × (last_word_of kind < 2 ^ 32)
