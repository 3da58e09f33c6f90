pub mod Positive
pub mod Naive
pub mod Homomorphism
pub mod Fresh
pub mod Complete
pub mod PlainWords
pub mod Missed
