pub mod BatchTextLemmas
pub mod FeedLemmas
pub mod FirstMessage
pub mod FirstMessageTells
pub mod MessagesLemmas
pub mod RecordTextLemmas
pub mod StageLemmas
pub mod WireFaultLemmas
