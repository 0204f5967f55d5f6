pub mod RegisterFile
pub mod Conditions
pub mod Refusals
pub mod Codes
pub mod Decoding
pub mod Encoding
pub mod Laws
pub mod Cycles
