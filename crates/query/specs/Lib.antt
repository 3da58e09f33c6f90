pub mod Words
pub mod Tree
pub mod Scope
pub mod Check
pub mod Answers
pub mod Passed
pub mod Named
