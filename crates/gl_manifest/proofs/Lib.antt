pub mod Before
mod CasesOrder
pub mod Given
pub mod Holding
pub mod JsonContent
pub mod JsonTexts
pub mod JsonTokens
pub mod Keys
pub mod Limits
pub mod ModifiersNamed
pub mod Names
pub mod NamesApart
pub mod ParamsDiffer
pub mod Order
pub mod Rules
pub mod Seen
pub mod Spelling
pub mod Spellings
