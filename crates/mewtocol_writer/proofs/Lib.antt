pub mod Filled
pub mod Ways
pub mod ReadBack
pub mod Contacts
pub mod OnlyThese
pub mod Frames
pub mod Statements
