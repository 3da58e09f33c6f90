pub mod Opening
pub mod Fields
pub mod Records
pub mod Measuring
pub mod Told
pub mod Written
pub mod WritingRows
pub mod Decoding
