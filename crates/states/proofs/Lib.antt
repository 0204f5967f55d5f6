mod Rows
mod Spending
mod Inner
pub mod Phases
pub mod Lawful
pub mod Lasting
