pub mod Numbered
pub mod Called
pub mod Answered
pub mod Ascii
pub mod Damaged
pub mod Computed
