mod CanonRows
mod TokenCases
pub mod BlockNames
pub mod Forward
pub mod Leads
pub mod Longest
pub mod Orders
pub mod Progress
pub mod Reading
pub mod Readings
pub mod Spanned
