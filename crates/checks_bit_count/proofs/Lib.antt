pub mod Tally
pub mod OneAnswer
