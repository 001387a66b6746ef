pub mod Handing
pub mod Readings
pub mod ContentLaws
pub mod ReadingLaws
pub mod Checks
pub mod Coming
pub mod Places
