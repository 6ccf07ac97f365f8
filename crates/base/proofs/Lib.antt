pub mod RightsWords
pub mod KindNames
pub mod CauseLemmas
pub mod LabelParts
mod LabelSets
mod LeastMember
