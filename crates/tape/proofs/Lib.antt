pub mod Endings
pub mod Spelling
pub mod Unambiguous
pub mod Blanks
pub mod Progress
