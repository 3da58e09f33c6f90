pub mod FillLaws
pub mod ModelLaws
pub mod Endings
