pub mod Arrays
mod Cases
pub mod Written
