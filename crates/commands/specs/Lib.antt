pub mod Ends
pub mod Described
pub mod Given
pub mod Files
pub mod Hearing
pub mod Commands
