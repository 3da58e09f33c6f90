pub mod Places
pub mod Walked
pub mod Cache
pub mod Passing
pub mod Asked
