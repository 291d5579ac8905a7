pub mod Counts
pub mod Utf8
pub mod Walks
