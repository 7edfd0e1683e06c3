pub mod LineLemmas
pub mod WordLemmas
pub mod PartLemmas
pub mod RuleLemmas
pub mod FileLemmas
pub mod PickLemmas
