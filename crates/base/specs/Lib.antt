pub mod Refusals
pub mod Kinds
pub mod Rights
pub mod Labels
