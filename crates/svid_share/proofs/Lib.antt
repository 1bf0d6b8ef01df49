pub mod InputsLemmas
pub mod JoinedLemmas
pub mod OneSummaryLemmas
pub mod PagesLemmas
pub mod PiecesLemmas
pub mod WrittenLemmas
