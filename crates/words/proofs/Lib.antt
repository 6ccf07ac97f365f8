mod Ascii
pub mod Splits
mod Decimals
mod OneDigit
mod HexLaws
mod Hexadecimals
mod NameText
mod Beginnings
pub mod Spellings
pub mod WordLaws
pub mod Parts
pub mod TextLaws
pub mod ReadingLaws
pub mod FirstFaults
pub mod TextReading
pub mod OneText
pub mod ListLaws
