pub mod Lacking
pub mod Cells
pub mod Done
pub mod OneBit
pub mod Held
pub mod Runs
pub mod Profiles
