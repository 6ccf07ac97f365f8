pub mod Seeing
pub mod Flowing
pub mod Rows
pub mod Chains
pub mod Ways
pub mod Sets
pub mod Smallest
pub mod Stages
