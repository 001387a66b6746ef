pub mod Reports
pub mod Showing
pub mod Sections
