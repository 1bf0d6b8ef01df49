pub mod Bundles
pub mod Candidates
pub mod Check
pub mod Checks
pub mod Id
pub mod Memory
pub mod Refused
pub mod Shown
