pub mod Bytes
pub mod Each
pub mod Numbers
pub mod Filling
