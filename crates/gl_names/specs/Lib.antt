pub mod Helpers
pub mod Mnemonics
pub mod References
pub mod Table
pub mod Void
