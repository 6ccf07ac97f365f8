pub mod RunLemmas
pub mod BootLemmas
pub mod BootPairs
pub mod Makings
pub mod LegalLemmas
