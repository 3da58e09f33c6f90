pub mod Budget
pub mod Covered
pub mod Steps
pub mod Children
pub mod TermLaws
