pub mod Values
pub mod Framed
pub mod Hopping
pub mod Targeted
pub mod Own
pub mod Judged
