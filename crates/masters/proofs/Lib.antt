pub mod ForWhom
pub mod Functions
pub mod Calls
pub mod Lines
pub mod Asking
pub mod Past
