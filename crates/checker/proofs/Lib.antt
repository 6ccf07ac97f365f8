pub mod Differences
mod Upgraded
