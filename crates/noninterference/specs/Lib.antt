pub mod Fixed
pub mod Loose
pub mod Alike
pub mod Sets
