pub mod AreaLemmas
pub mod ChainSteps
pub mod PacketBytes
pub mod PacketBytes4
pub mod HeaderEditLemmas
pub mod PublicLaws
