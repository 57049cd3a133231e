pub mod OverRows
pub mod Looking
