pub mod Walk
pub mod First
pub mod Alike
