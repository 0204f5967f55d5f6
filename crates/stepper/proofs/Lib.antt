pub mod Lawful
pub mod Examples
