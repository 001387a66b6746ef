pub mod HeadJudges
pub mod Places
pub mod Wrong
pub mod Readings
pub mod ReadingLaws
pub mod Readers
pub mod Reads
pub mod Laws
