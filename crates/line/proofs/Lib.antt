pub mod Finding
pub mod Lines
pub mod Shown
pub mod Answering
pub mod WholeCase
pub mod Fits
