pub mod Batches
pub mod Children
pub mod Filled
pub mod Grown
pub mod Placed
pub mod Planned
