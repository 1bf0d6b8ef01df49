pub mod CandidatesLemmas
pub mod CheckLemmas
pub mod IdLemmas
pub mod MemoryLemmas
