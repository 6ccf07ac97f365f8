pub mod Kinds
pub mod Line
pub mod Reading
pub mod Certificate
pub mod Right
