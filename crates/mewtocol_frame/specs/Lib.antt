pub mod Frame
pub mod Text
