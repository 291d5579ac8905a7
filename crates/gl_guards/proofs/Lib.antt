pub mod Leaves
pub mod Fresh
pub mod Parts
pub mod Keep
pub mod Steps
pub mod Same
pub mod Joined
pub mod Told
pub mod Standing
pub mod Pages
mod Cases
pub mod Outcomes
pub mod Asks
pub mod Rising
pub mod TurnAsks
pub mod AlongLess
pub mod Itself
pub mod Once
