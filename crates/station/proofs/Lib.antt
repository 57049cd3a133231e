pub mod SmallOr
pub mod Calls
pub mod Done
pub mod Held
