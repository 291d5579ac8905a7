pub mod Tags
pub mod View
pub mod Laws
