pub mod Carried
pub mod Findings
mod Following
