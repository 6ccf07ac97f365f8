pub mod Files
pub mod Nearest
