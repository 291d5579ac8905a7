pub mod Lent
pub mod Proper
pub mod Records
pub mod Table
pub mod View
