pub mod Places
pub mod Relations
pub mod Reports
pub mod Objects
pub mod Breaches
pub mod Differences
pub mod Reasons
pub mod Summaries
