pub mod Counters
pub mod Diagnosis
