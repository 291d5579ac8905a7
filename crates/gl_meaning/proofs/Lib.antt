pub mod Above
pub mod Alike
pub mod Calls
mod CaseTodo
mod CasesActions
mod CasesClasses
mod CasesForms
mod CasesLists
mod CasesManifest
mod CasesNames
mod CasesPaths
mod CasesRead
mod CasesScopes
mod CasesScript
mod CasesSpelled
mod CasesSteps
mod CasesTexts
mod CasesTurns
mod Computed
pub mod Drawn
pub mod Equal
pub mod Forms
pub mod Frame
pub mod Getters
pub mod Limits
pub mod Manifests
pub mod Modifiers
pub mod Nesting
pub mod Numbers
pub mod Once
pub mod Pieces
pub mod PlaceLaws
pub mod Plain
pub mod Reach
pub mod Sessions
pub mod Settled
pub mod Touched
pub mod Under
