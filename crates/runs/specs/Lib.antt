pub mod Schedules
pub mod Planned
pub mod Runs
pub mod Histories
