pub mod Walked
pub mod Flagged
pub mod Cache
