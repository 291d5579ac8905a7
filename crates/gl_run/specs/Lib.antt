pub mod Command
pub mod Holds
pub mod Plays
pub mod Reached
pub mod Sample
pub mod Told
