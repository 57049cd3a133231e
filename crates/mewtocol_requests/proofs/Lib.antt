pub mod Bounds
pub mod Lists
pub mod Tests
pub mod Making
pub mod Answers
pub mod Sound
pub mod Once
