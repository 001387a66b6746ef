pub mod Settings
pub mod Arguments
pub mod Forms
pub mod Reader
pub mod Numbers
pub mod Words
pub mod Laws
