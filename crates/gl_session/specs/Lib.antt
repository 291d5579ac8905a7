pub mod Faults
pub mod Laying
pub mod Standing
pub mod Writing
pub mod Telling
pub mod Turn
