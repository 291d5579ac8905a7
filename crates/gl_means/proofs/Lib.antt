pub mod Expressions
pub mod Along
pub mod Drawn
pub mod Still
pub mod Sums
pub mod Plain
pub mod Coded
mod Cases
