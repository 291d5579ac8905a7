pub mod Nests
pub mod Replacing
pub mod Steps
pub mod Rows
pub mod CodeRows
pub mod Midways
