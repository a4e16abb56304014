pub mod ShiftLemmas
