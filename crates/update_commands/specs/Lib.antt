pub mod WholeUpdate
pub mod UpdateCommand
pub mod UpdateCommandTerms
