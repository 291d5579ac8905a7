pub mod Chains
pub mod Cycles
pub mod Marks
pub mod Through
