pub mod History
pub mod Lines
pub mod Plans
pub mod Promises
pub mod Tables
