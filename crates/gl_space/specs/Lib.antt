pub mod Trim
pub mod Turn
