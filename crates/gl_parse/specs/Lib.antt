pub mod Due
pub mod Dues
pub mod FaultPlace
pub mod Place
pub mod ReadItem
pub mod ReadStmt
pub mod ReadValue
pub mod View
