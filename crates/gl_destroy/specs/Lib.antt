pub mod What
pub mod Forest
pub mod Links
pub mod View
