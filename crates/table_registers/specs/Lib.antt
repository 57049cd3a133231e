pub mod Table
pub mod Bits
pub mod Operation
pub mod Profile
pub mod Statements
