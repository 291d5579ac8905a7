pub mod Begins
pub mod Begun
pub mod Class
pub mod Clear
pub mod Fault
pub mod Found
pub mod Front
pub mod Stops
