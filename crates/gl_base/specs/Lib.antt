pub mod Answers
pub mod Names
pub mod Reading
pub mod Taking
pub mod Texts
