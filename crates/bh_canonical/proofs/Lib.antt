pub mod Owing
pub mod Sent
pub mod Heads
pub mod Events
pub mod Weighs
pub mod Owes
pub mod Called
