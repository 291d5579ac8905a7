pub mod Guarded
pub mod Along
pub mod Once
pub mod Questions
pub mod AlongAsks
pub mod Settled
pub mod Laws
