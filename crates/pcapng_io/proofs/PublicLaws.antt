-- The lemmas that crates above may cite.
pub use Rattle.pcapng_io.proofs.EachFrame.{each_held}
pub use Rattle.pcapng_io.proofs.FrameNumbers.{numbered_file}
