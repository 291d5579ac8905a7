pub mod Forests
pub mod Links
pub mod Looks
pub mod Calls
pub mod Thinning
