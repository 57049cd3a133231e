pub mod Feed
pub mod Damage
pub mod Within
pub mod Shows
pub mod Flips
