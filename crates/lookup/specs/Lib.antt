pub mod Matching
pub mod Place
pub mod Examined
pub mod Passing
pub mod Probe
pub mod Binding
