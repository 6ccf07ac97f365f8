pub mod Comparing
pub mod Escapes
pub mod Sights
pub mod Shown
