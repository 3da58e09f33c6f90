pub mod Fields
pub mod Text
pub mod Line
