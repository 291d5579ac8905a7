pub mod Parts
pub mod Asked
pub mod Ids
pub mod Counting
