pub mod Meanings
pub mod Rows
pub mod Setting
pub mod Evaluating
pub mod Computing
pub mod Binding
pub mod Reaching
pub mod Leading
pub mod Freeing
pub mod Waits
pub mod Totals
pub mod Counting
pub mod Watching
mod Joined
mod Seen
mod Stacks
mod Tagging
mod Found
mod Telling
mod Encoded
mod Propers
mod Alone
