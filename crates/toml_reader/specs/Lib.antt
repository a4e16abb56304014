pub mod TomlReading
pub mod Tree
