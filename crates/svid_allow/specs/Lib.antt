pub mod Allows
pub mod Pattern
