pub mod SizeLemmas
pub mod ReadLemmas
pub mod WriteLemmas
pub mod SpellLemmas
pub mod LawLemmas
