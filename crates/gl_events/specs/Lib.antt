pub mod View
pub mod Hears
