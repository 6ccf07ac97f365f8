pub mod Acting
pub mod Boot
pub mod Reach
pub mod Extents
