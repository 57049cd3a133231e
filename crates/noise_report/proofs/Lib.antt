pub mod Counted
pub mod Small
pub mod Reading
pub mod Hearing
pub mod Claimed
pub mod Worked
