pub mod Requests
pub mod Reading
pub mod Hearing
pub mod Code
pub mod Sound
