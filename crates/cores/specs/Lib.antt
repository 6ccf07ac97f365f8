pub mod History
pub mod Rule
pub mod Moves
pub mod Tokens
pub mod Seats
pub mod Safety
pub mod SplitRun
pub mod Workers
