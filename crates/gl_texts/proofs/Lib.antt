pub mod Nested
pub mod Trees
pub mod Told
pub mod Placed
pub mod Destroyed
pub mod Texts
pub mod Words
