pub mod Moves
mod Cases
