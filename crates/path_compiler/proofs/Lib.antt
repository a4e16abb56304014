pub mod FirstCosts
pub mod ListCosting
pub mod CompilerAnswering
pub mod CompilerChecking
pub mod CompilerHanding
pub mod Certifying
pub mod OneAnswer
pub mod PublicLaws
