pub mod Format
pub mod Shapes
