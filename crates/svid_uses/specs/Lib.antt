pub mod Batched
pub mod Texts
pub mod Time
