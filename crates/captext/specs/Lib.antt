pub mod Shapes
pub mod Spelling
pub mod Tables
pub mod Policies
pub mod PolicyText
pub mod Drafts
pub mod TableText
