pub mod Calls
pub mod AnyInput
pub mod RightAnswers
pub mod LineDamage
pub mod Lines
pub mod Examples
