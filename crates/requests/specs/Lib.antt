pub mod Found
pub mod Meaning
pub mod Requests
