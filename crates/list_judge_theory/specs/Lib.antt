pub mod ListCourses
