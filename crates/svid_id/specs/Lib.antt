pub mod Domain
pub mod Id
pub mod Path
