pub mod CheckCommand
pub mod CheckCommandTerms
pub mod CompileCommand
pub mod CompileCommandTerms
pub mod Printed
pub mod Strict
pub mod CompiledLists
