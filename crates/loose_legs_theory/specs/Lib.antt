pub mod LooseStepsTerms
pub mod LooseSentences
pub mod StopLinks
