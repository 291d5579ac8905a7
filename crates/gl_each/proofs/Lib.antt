pub mod Carrying
pub mod Feeding
pub mod HashesApart
pub mod Keyings
pub mod Moving
pub mod Plans
pub mod Standing
