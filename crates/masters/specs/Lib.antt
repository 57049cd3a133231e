pub mod Frames
pub mod Asking
