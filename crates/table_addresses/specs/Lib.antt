pub mod Catalogue
pub mod Areas
pub mod Cells
pub mod Statements
