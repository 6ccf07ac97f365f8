pub mod Devices
pub mod Watched
pub mod Bounded
pub mod Opened
