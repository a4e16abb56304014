pub mod BindingKind
pub mod OriginFacts
pub mod BindingSentences
