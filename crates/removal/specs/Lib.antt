pub mod UnderWay
pub mod Finalised
pub mod Pass
pub mod Dropping
pub mod Sweeping
