pub mod StepLemmas
pub mod MemberLemmas
pub mod FieldLemmas
