pub mod Sequencing
pub mod Situation
pub mod States
pub mod Transfers
pub mod Ticks
pub mod TickLaws
pub mod Tallies
pub mod WholeInstruction
