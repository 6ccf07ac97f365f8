pub mod Keeping
pub mod Asked
pub mod Least
pub mod Broken
pub mod Sweep
