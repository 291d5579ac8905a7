pub mod Holds
pub mod Parts
pub mod View
