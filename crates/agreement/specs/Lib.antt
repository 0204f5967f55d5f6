pub mod Calls
pub mod InstructionMachine
pub mod Agreement
