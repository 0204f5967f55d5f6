pub mod AddressRing
pub mod Nesting
pub mod Processor
pub mod Effects
pub mod Faults
pub mod Place
