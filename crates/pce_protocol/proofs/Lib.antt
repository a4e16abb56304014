pub mod Parsing
pub mod IdLaws
pub mod ItemsRead
pub mod Members
pub mod NoFloats
