pub mod DepthLemmas
pub mod EntryLemmas
pub mod JoinLemmas
pub mod LawLemmas
pub mod UnnamedLemmas
pub mod ViewLemmas
