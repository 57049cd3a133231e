pub mod ReadFrames
pub mod WrittenFrames
pub mod Distances
pub mod OneAnswer
pub mod Places
