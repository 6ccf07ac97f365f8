pub mod EdgeLists
pub mod SlotAuthority
pub mod TableAuthority
pub mod BootLabels
