pub mod AllowedLemmas
pub mod AloneLemmas
pub mod AsBox
pub mod AsTokenBox
pub mod AsTrustBox
pub mod CallersLemmas
pub mod CheckedLemmas
pub mod DocumentsLemmas
pub mod EntriesLemmas
pub mod InputsLemmas
pub mod JoinedLemmas
mod JournalLemmas
pub mod LiveLemmas
pub mod LogLemmas
pub mod NamesLemmas
pub mod OfferLemmas
pub mod RefusedBundlesLemmas
pub mod SaysLemmas
pub mod SpkiLemmas
mod TextsLemmas
pub mod TrustLemmas
