pub mod OneMore
pub mod Pieces
mod LetterSets
mod Waiting
mod Written
pub mod Memory
pub mod ReadEdges
mod Avoiding
pub mod Counting
