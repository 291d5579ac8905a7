pub mod Lines
pub mod Trimmed
pub mod Turns
