pub mod View
pub mod Lines
pub mod Logs
pub mod Writes
