pub mod Putting
pub mod Together
pub mod Chunks
pub mod Sending
pub mod Messages
pub mod Canonicals
pub mod Adding
pub mod Gathering
