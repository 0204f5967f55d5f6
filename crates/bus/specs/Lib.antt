pub mod Store
pub mod Card
pub mod Flat
pub mod Latch
pub mod Wiring
