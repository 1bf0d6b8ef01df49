pub mod BundlesLemmas
pub mod CandidatesLemmas
pub mod DigitsLemmas
pub mod FirstLemmas
pub mod KeyLemmas
pub mod LinesLemmas
pub mod TableLemmas
