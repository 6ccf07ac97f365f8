mod NothingLost
pub mod OneFolded
mod Rows
mod PairArrows
