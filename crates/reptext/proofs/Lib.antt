mod LabelLists
mod Names
pub mod OneText
mod Upgraded
mod Numbered
mod Pieces
pub mod ChangeValues
pub mod Fractions
