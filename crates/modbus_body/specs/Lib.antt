pub mod Bytes
pub mod Body
pub mod Said
