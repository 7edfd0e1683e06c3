pub mod FrameLemmas
pub mod KeepLemmas
pub mod UnreadLemmas
pub mod FoundLemmas
pub mod HeadLemmas
pub mod CutLemmas
pub mod SentLemmas
pub mod FragmentLemmas
