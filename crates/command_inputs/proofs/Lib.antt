pub mod Certificates
pub mod ChoiceLemmas
pub mod InputJudging
pub mod PublicLaws
pub mod Tracing
pub mod FramesFound
pub mod FrameLoops
pub mod InputsFrames
