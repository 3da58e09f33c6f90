pub mod Bucket
pub mod Chains
