pub mod Feeding
pub mod Sheets
pub mod SideBySide
pub mod Columns
pub mod Slips
pub mod Patterns
