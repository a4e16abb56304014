pub mod ReplaceJudging
pub mod Replacing
