pub mod DomainLemmas
pub mod IdLemmas
pub mod PathLemmas
pub mod PieceLemmas
