pub mod Alone4
pub mod Fronted
pub mod FrontedTerms
pub mod ContentView
pub mod StageAnswers
