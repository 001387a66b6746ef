pub mod ReadingOn
pub mod Counts
pub mod Judging
pub mod AtStart
pub mod Fits
pub mod Coming
pub mod Checked
