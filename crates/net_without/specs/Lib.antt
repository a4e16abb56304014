pub mod Without
pub mod WithoutTerms
