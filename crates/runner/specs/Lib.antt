pub mod Halts
pub mod Running
pub mod Stepping
pub mod TapeRun
