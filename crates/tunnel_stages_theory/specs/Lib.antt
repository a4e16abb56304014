pub mod TunnelStagesTerms
pub mod TunnelWalksTerms
pub mod TunnelLayersTerms
pub mod OwnHandSentence
pub mod BindingSmallTerms
