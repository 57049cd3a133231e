pub mod Bounds
pub mod Layouts
pub mod Through
pub mod Standing
