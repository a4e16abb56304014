pub mod CaptureReading
pub mod CaptureNumberLemmas
pub mod FrameLemmas
pub mod HeadLemmas
pub mod WrittenLemmas
pub mod PublicLaws
pub mod CapturePieceLemmas
pub mod FeedingLemmas
