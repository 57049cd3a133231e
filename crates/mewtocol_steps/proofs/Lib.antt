pub mod HexData
pub mod Known
pub mod Ways
pub mod OneAnswer
