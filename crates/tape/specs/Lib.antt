pub mod Places
pub mod Reading
pub mod Refusals
pub mod Tape
pub mod Words
