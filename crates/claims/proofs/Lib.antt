mod Joined
mod Promised
mod Learnt
mod Gathered
mod FirstBreach
mod FirstEdge
pub mod StrongestLaws
