pub mod Stages
pub mod Owed
pub mod Writers
pub mod Calls
