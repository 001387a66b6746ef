pub mod Owed
pub mod Laws
pub mod Gathering
pub mod Holding
pub mod Ends
pub mod Writers
