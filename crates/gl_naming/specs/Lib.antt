pub mod Renamed
pub mod Laws
pub mod Numbered
pub mod Exist
pub mod Moved
pub mod Ties
pub mod Sits
pub mod Named
