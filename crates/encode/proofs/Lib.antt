pub mod RecordSteps
pub mod Encoding
