pub mod Cuts
pub mod Room
pub mod Spanned
pub mod Parsed
pub mod Ends
pub mod Laws
pub mod Fronts
