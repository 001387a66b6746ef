pub mod Owed
pub mod Shown
pub mod Listed
pub mod Laws
