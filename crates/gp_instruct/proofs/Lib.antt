pub mod ChannelLemmas
pub mod LinkLemmas
pub mod TargetLemmas
pub mod NumberLemmas
pub mod PartLemmas
pub mod HeadLemmas
pub mod SpecFits
