pub mod Register
pub mod Runs
pub mod Closing
pub mod Table
pub mod Entries
