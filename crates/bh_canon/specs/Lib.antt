pub mod Buffers
pub mod Lending
pub mod Ends
pub mod Telling
pub mod Calls
pub mod Laws
pub mod Memory
