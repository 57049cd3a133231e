pub mod Replies
pub mod Station
pub mod Statements
