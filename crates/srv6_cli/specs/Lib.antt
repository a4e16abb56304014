pub mod Commands
pub mod CommandsTerms
pub mod Complete
pub mod ServeLaws
pub mod Serves
pub mod CommandWords
pub mod Captured
pub mod Headline
