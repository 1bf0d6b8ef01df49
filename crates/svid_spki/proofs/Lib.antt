pub mod DerLemmas
pub mod NumberLemmas
pub mod SpkiLemmas
