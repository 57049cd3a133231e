pub mod Shared
pub mod Masks
pub mod Passing
pub mod Touching
