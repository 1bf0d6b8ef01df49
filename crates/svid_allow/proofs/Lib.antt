pub mod AllowsLemmas
pub mod PatternLemmas
pub mod LawLemmas
