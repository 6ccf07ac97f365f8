pub mod ArrivingEnds
pub mod Elsewhere
pub mod Delivered
