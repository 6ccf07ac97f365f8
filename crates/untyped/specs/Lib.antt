pub mod Batch
pub mod Making
pub mod Shown
pub mod Windows
