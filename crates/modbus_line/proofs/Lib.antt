pub mod Framing
pub mod Bodies
pub mod Calls
