pub mod Audiences
pub mod History
pub mod Once
pub mod Reads
pub mod Tells
pub mod Told
pub mod Verdicts
pub mod World
