pub mod ListCosts
pub mod Handing
pub mod Compiled
pub mod CompiledTerms
pub mod Checked
pub mod CheckedTerms
