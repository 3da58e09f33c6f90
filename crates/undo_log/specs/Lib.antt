pub mod Places
pub mod Log
pub mod History
pub mod Worked
