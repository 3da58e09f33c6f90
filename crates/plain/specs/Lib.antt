pub mod Plain
pub mod Missed
