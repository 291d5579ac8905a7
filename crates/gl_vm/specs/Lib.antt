pub mod Labels
pub mod Kept
pub mod View
pub mod Steps
pub mod Led
