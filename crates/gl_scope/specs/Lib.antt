pub mod Scope
pub mod View
