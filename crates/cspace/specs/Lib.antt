pub mod Strings
pub mod Roots
pub mod Chain
pub mod Below
