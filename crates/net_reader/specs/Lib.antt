pub mod Numbering
pub mod NumberingTerms
pub mod Joining
pub mod Standings
pub mod StandingsTerms
pub mod NetworkReading
