pub mod Faults
pub mod ScriptIs
pub mod ScriptOver
pub mod View
