pub mod Users
pub mod Lending
pub mod Joined
pub mod Claims
