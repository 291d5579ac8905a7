pub mod Keys
pub mod Named
pub mod Overs
pub mod Scripts
