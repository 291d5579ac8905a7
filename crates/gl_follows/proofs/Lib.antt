pub mod Plain
pub mod Tied
pub mod Owners
pub mod Setting
pub mod Keeping
pub mod Turning
pub mod Words
mod Cases
