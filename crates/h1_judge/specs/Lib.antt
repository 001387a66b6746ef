pub mod Courses
pub mod Views
pub mod Judges
pub mod JudgedLaws
