pub mod Bools
pub mod FieldLaws
pub mod Walking
pub mod Scanned
pub mod Walked
