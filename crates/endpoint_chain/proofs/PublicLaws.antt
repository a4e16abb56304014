-- The lemmas of this crate that crates above cite: what comes of a chain from each place on.
pub use Rattle.endpoint_chain.proofs.ChainLemmas.{ComesTo, comes_start, comes_upper, comes_cut, comes_header, comes_decided, comes_behind}
-- and a packet alone in its bytes
pub use Rattle.endpoint_chain.proofs.ChainRemovalLemmas.{alone_spelled, alone_spellable, alone_length, alone_most, edit_next_header}
