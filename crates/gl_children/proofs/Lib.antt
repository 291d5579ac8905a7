pub mod Children
mod Cases
