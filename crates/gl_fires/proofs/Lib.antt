pub mod Alike
pub mod Heard
pub mod Own
pub mod Standing
