pub mod PolicyHeaders
pub mod Inner
pub mod EncapAnswers
