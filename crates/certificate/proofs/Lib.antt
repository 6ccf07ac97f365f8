pub mod Bits
pub mod KindWords
pub mod LineLaws
pub mod Certificates
pub mod RightLines
pub mod MoreLines
