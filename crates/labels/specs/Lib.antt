pub mod SlotEdges
pub mod SlotAuthority
pub mod TableEdges
