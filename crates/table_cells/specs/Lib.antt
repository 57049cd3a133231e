pub mod Cells
pub mod Touched
