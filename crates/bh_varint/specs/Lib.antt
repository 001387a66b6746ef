pub mod Step
pub mod Begun
pub mod Numbers
