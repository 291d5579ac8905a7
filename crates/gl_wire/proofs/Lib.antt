pub mod Elses
pub mod Named
pub mod NoFloats
pub mod RowTexts
mod WireRows
