-- The lengths that packets state.
use Rattle.ip6_headers.proofs.PublicLaws.{holds_payload_len}

pub ruleset lengths = (holds_payload_len)
