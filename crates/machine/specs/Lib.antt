pub mod Machines
pub mod Holding
pub mod Carried
pub mod Calling
