mod Interrupted
mod Reading
mod Writing
