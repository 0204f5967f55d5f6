pub mod Following
pub mod Turns
pub mod Accounts
pub mod Telling
