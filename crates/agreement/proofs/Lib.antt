mod Finish
mod InHand
pub mod Theorem
