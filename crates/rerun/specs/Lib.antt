pub mod Fills
pub mod Rerun
