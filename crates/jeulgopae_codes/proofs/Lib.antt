pub mod Signed
pub mod AskNothing
