pub mod ClaimsLemmas
pub mod CompactLemmas
pub mod JsonLemmas
pub mod ObjectLemmas
pub mod PartLemmas
pub mod RowsLemmas
