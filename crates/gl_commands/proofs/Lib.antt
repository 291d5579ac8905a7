pub mod Decimals
pub mod Files
pub mod Outputs
pub mod Saying
