pub mod TraceParts
pub mod Splits
