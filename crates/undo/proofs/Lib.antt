pub mod RowStarts
pub mod Places
pub mod Entries
