pub mod Replies
pub mod Statements
