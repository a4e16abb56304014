pub mod SegmentLists
