pub mod Walking
pub mod Runs
pub mod Setting
