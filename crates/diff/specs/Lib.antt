pub mod Changes
pub mod Names
pub mod Side
pub mod Text
pub mod Twins
pub mod Within
