pub mod Front
pub mod Written
