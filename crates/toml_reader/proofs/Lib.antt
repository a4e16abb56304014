pub mod CountedLists
pub mod Documents
pub mod TomlListReading
