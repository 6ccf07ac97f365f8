mod Items
mod Levels
mod Lines
