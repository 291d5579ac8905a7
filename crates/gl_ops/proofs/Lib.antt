pub mod Finding
pub mod Lines
pub mod Mnemonics
pub mod Words
