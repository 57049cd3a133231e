pub mod Moved
pub mod Conversions
pub mod Coils
