pub mod Asked
pub mod Spots
