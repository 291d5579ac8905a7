pub mod Application
pub mod Rows
pub mod Script
