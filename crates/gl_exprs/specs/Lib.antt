pub mod Fault
pub mod Pieces
pub mod ReadExpr
pub mod Referring
pub mod Take
