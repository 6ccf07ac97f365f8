pub mod Check
pub mod Verified
