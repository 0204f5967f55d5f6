pub mod Shift
pub mod Feed
