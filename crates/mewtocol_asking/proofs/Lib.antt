pub mod Fit
pub mod Tests
