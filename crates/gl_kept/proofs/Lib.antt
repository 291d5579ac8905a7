pub mod Frames
pub mod Stays
pub mod Binds
pub mod Tags
pub mod Grows
pub mod Calms
pub mod Renews
pub mod Updates
pub mod Names
pub mod Closed
pub mod Roots
pub mod Listed
pub mod Planned
pub mod TreeLists
pub mod Asking
pub mod Asked
pub mod Questions
pub mod Between
pub mod Trees
pub mod Sessions
mod Cases
mod AskCases
