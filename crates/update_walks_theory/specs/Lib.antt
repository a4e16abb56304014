pub mod AlikeTerms
