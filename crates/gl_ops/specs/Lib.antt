pub mod Finding
pub mod Lines
pub mod Opcodes
pub mod Rows
pub mod Words
