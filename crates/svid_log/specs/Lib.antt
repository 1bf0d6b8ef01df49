pub mod Calls
pub mod Groups
pub mod Members
pub mod Once
pub mod Saves
pub mod Steps
pub mod Values
