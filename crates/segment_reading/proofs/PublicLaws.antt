-- The lemmas that crates above may cite: each proves a law that a public function has for its contract.
pub use Rattle.segment_reading.proofs.ReadingLists.{values_same}
