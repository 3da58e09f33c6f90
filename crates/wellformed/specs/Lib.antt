pub mod WellFormed
pub mod Faults
pub mod InkedTerms
