pub mod Blocks
pub mod NgReading
pub mod NgReadingTerms
pub mod Taking
pub mod Passing
pub mod Runs
pub mod Spelled
pub mod NgPieces
