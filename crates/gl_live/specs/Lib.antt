pub mod Most
pub mod Counting
