pub mod Blocks
pub mod CaseApp
mod CasesBlocks
mod CasesComponents
mod CasesFaults
mod CasesNone
mod CasesPrograms
mod CasesReads
mod CasesTags
mod CasesWrong
pub mod Codable
pub mod Counts
pub mod Extended
pub mod Growing
pub mod Joins
pub mod Jumps
pub mod Known
pub mod LinkedExprs
pub mod LinkedStmts
pub mod Lookups
pub mod Lowered
pub mod LoweredExprs
pub mod LoweredStmts
pub mod Lowering
pub mod NamePlaces
pub mod NumbersRise
pub mod Places
pub mod Pools
pub mod SameNames
pub mod TreeFaults
pub mod Whole
pub mod WireUnknowns
