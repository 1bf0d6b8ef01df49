pub mod Document
pub mod Entry
pub mod Join
pub mod Uses
