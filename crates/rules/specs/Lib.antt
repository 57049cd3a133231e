pub mod Choice
pub mod Tests
pub mod Given
pub mod Characters
