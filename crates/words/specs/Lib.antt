pub mod Fault
pub mod Text
pub mod Reading
pub mod Number
pub mod Name
pub mod Parts
pub mod FirstFault
