pub mod Joins
pub mod Loops
pub mod NodeMods
pub mod CodeCounts
pub mod Gone
