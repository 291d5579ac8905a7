pub mod Keeping
pub mod Leads
pub mod Greatest
pub mod Changes
