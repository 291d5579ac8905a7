pub mod Played
pub mod Sizes
pub mod Tallied
pub mod Words
pub mod Works
