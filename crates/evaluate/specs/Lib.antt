pub mod Junction
pub mod Within
pub mod Ready
pub mod Asking
