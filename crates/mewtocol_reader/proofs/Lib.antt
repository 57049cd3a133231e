pub mod Statements
pub mod Shows
pub mod Places
