-- The laws of this crate as lemmas, each the proof of a clause of `laws`: what crates above cite.
pub use Rattle.list_certificate.proofs.Showing.{shows, solution_cert, solution_accepted}
pub use Rattle.list_certificate.proofs.OneVerdict.{one_verdict}
pub use Rattle.list_certificate.proofs.PrintedRead.{what_is_read}
