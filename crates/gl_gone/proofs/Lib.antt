pub mod Going
pub mod Logged
pub mod CodeGoes
pub mod NumberSets
pub mod KeptRows
