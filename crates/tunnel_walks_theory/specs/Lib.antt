pub mod MachinesTerms
pub mod TunnelChoices
pub mod TunnelPacketsTerms
pub mod CountedExample
pub mod TunnelLegs
pub mod HopNeeds
pub mod WalkRests
