pub mod CheckEnds
pub mod CommandChecking
pub mod Compiling
pub mod CommandStrict
pub mod PublicLaws
pub mod Reporting
pub mod CommandPrinting
pub mod CommandOneOutput
