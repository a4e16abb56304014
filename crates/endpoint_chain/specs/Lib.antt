pub mod Outcomes
pub mod ChainJudging
pub mod Removal
pub mod ChainFronts
