pub mod Chains
pub mod Listing
