pub mod Outcomes
pub mod Arithmetic
pub mod Rotations
