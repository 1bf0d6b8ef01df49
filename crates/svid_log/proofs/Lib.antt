pub mod SavesLemmas
pub mod CallsLemmas
pub mod FirstsLemmas
pub mod GroupsLemmas
pub mod IndexesLemmas
pub mod RowsLemmas
pub mod StepsLemmas
pub mod ValuesLemmas
