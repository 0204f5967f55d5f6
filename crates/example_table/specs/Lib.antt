pub mod Comparing
pub mod Sights
pub mod Trace
