pub mod ScanLemmas
pub mod ReadLemmas
