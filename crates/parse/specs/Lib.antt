pub mod Parse
pub mod Number
