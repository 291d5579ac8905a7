pub mod Sets
pub mod Turns
pub mod Laws
