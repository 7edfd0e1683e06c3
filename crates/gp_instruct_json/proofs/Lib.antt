pub mod MemberLemmas
pub mod HoldLemmas
