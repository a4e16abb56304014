pub mod CourseSids
pub mod CourseWalks
pub mod ListTails
pub mod ChosenNumbers
pub mod RealizesAlong
pub mod JudgedLeast
