pub mod Masks
pub mod Steps
pub mod Parts
pub mod Trees
pub mod Passed
pub mod Named
pub mod KindTerms
pub mod FewTerms
