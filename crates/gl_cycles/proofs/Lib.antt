pub mod Bits
pub mod Closing
pub mod Firsts
pub mod Places
pub mod Reaching
pub mod Marking
pub mod Rows
pub mod Throughs
