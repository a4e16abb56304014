-- The laws of this crate as lemmas, each the proof of a clause, and what callers need of the words of its clauses: what
-- crates above cite.
pub use Rattle.ip6_headers.proofs.AreaLemmas.{area_behind}
pub use Rattle.ip6_headers.proofs.ChainSteps.{behind_whole, step_begun}
pub use Rattle.ip6_headers.proofs.PacketBytes.{holds_spellable, holds_spelled, holds_payload_len, holds_front, read_back}
pub use Rattle.ip6_headers.proofs.PacketBytes4.{holds4_spellable, holds4_byte, holds4_length, holds4_front}
pub use Rattle.ip6_headers.proofs.HeaderEditLemmas.{read_next_header, read_hop_limit, read_destination, read_payload_len, read_payload_cut}
