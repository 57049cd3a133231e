pub mod Masters
pub mod Examples
