pub mod Back
pub mod Small
