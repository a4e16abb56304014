-- The lemmas that crates above cite.
pub use Rattle.srx_edge.proofs.Sends.{sent_sent, sent_both, cut_longer, cut_after, cut_whole, cut_none, cut_failed, cut_wanting}
