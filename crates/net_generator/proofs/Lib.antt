pub mod Growing
pub mod GeneratorSpelled
