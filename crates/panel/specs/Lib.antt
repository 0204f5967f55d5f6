pub mod Words
pub mod Numbers
pub mod Reading
pub mod Schedules
pub mod Settings
pub mod Desk
pub mod Carrying
pub mod Lines
