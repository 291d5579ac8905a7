mod CellLaws
pub mod ClassLaws
mod FieldLaws
mod Fires
mod FoundIn
mod FrameFits
mod HeardIn
mod Joined
mod OwnSets
pub mod Renamed
mod RootSets
pub mod Running
mod Rules
mod Values
