pub mod PlainTexts
pub mod CertificateTexts
pub mod Answering
pub mod FoundLists
pub mod Refusals
pub mod PacketTraces
pub mod Replying
pub mod ListJudgements
