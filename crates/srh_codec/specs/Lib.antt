pub mod Viewing
pub mod SrhReading
pub mod Writing
