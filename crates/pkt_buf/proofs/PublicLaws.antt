-- What crates above cite of a buffer.
pub use Rattle.pkt_buf.proofs.BufferLemmas.{same_buffer, left_whole}
