pub mod Outputs
pub mod Owing
pub mod Due
pub mod Fronts
pub mod Called
pub mod Shows
