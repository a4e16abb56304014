-- The laws of this crate as lemmas, each the proof of a clause of `laws`: what crates above cite.
pub use Rattle.pcap_io.proofs.FrameLemmas.{splits_read, frames_spelled, none_spelled, some_spelled}
pub use Rattle.pcap_io.proofs.HeadLemmas.{head_read, head_spelled}
pub use Rattle.pcap_io.proofs.CaptureReading.{frames_of_zero, frames_of_whole, frames_of_none}
pub use Rattle.pcap_io.proofs.WrittenLemmas.{written_head_read, written_frame_read, written_capture_read}
