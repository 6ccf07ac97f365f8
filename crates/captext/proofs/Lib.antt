mod Admits
pub mod SlotLaws
pub mod StepLaws
mod PolicyLaws
mod DraftLaws
pub mod NameLaws
pub mod Written
mod TableLines
pub mod LineLaws
mod ObjectParts
mod ObjectLines
pub mod CapLines
pub mod CapTexts
mod PairLines
pub mod BindLines
mod TableLaws
mod TermLaws
