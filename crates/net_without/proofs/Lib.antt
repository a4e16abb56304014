pub mod Cuts
pub mod Flags
pub mod Keeping
pub mod LookupsLeft
