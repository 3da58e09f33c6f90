pub mod Worked
pub mod Places
pub mod Joins
pub mod Entries
pub mod Accepted
pub mod Kept
pub mod History
