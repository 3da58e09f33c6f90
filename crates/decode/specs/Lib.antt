pub mod Measure
pub mod Write
pub mod Restarted
