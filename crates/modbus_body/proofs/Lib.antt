pub mod Packed
pub mod Shape
pub mod Rows
pub mod Carry
pub mod Small
pub mod First
pub mod Repeats
pub mod ToAll
