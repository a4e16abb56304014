pub mod GraphWalks
pub mod GraphWalksTerms
pub mod FoundInGraphs
pub mod FoundInGraphsTerms
pub mod GraphLegs
pub mod VertexTables
pub mod VertexOrder
