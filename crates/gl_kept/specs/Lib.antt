pub mod Around
pub mod Kept
pub mod Closed
pub mod Listed
pub mod Between
pub mod Asked
pub mod Laws
