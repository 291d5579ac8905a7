pub mod Fitting
mod HelperValues
pub mod Indexes
pub mod Keeping
pub mod NamedLaws
pub mod Owners
pub mod Paths
pub mod Plain
pub mod Propers
pub mod Properties
pub mod Reading
pub mod Sameness
pub mod Values
pub mod Words
