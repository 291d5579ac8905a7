pub mod Marking
pub mod Spellable
