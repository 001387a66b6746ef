pub mod Lines
pub mod Contents
pub mod Trailers
pub mod Readers
pub mod Whole
pub mod Sizes
pub mod Laws
