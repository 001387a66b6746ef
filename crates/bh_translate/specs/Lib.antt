pub mod Into
pub mod From
pub mod Laws
