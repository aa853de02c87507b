pub mod CompletionLemmas
mod Examples
pub mod HitLemmas
pub mod MemberLemmas
pub mod NarrowedLemmas
pub mod SearchLemmas
