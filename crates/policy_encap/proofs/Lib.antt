pub mod RoundLemmas
pub mod EncapLemmas
pub mod EncapFrontLemmas
