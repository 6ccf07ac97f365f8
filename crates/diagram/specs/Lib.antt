pub mod Programs
pub mod Regions
pub mod Folded
pub mod Drawing
