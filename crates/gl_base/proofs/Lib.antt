pub mod Chars
pub mod Lists
pub mod Taken
