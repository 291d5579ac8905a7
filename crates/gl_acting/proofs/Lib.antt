pub mod Picked
pub mod Tied
pub mod Stood
pub mod Has
pub mod Noted
pub mod Notes
pub mod Mods
