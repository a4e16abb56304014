pub mod LookupsTerms
