pub mod Mods
pub mod Kept
pub mod View
