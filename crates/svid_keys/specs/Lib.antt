pub mod Bundles
pub mod Candidates
pub mod First
pub mod Key
pub mod Lines
pub mod Question
pub mod Table
