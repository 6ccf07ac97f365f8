pub mod Among
pub mod Holding
pub mod WhoActs
pub mod LeastReach
pub mod Extents
