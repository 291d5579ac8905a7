pub mod Arguments
pub mod AtNodes
pub mod Endings
pub mod Ids
pub mod Calls
pub mod Seen
