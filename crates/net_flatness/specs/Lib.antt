pub mod Nests
pub mod NestsTerms
pub mod NestTests
pub mod Flat
pub mod FlatTerms
pub mod Search
pub mod Units
