-- Need not be believed: helps proofs and other laws.
-- A packet's bytes with another payload length in their header, as where a header is taken out (RFC 8986 section 4.16.1).
use Rattle.std.specs.Prelude.{ℕ, List, ◌++◌, take, drop}
use Rattle.srv6_rules.specs.declared.numbers.TheConstants.{PAYLOAD_LEN_AT, NEXT_HEADER_AT}
use Rattle.srv6_rules.specs.Packet.{two_bytes}

abbrev pub with_payload_len : ℕ → List ℕ → List ℕ
with_payload_len len bytes = take PAYLOAD_LEN_AT bytes ++ (two_bytes len ++ drop NEXT_HEADER_AT bytes)
