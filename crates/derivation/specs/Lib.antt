pub mod Descendants
pub mod Moving
pub mod OwnSlots
pub mod Raising
pub mod Removing
pub mod Thinning
