pub mod Starts
pub mod Sealed
pub mod Shapes
