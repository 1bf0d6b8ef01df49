pub mod Value
pub mod Read
pub mod Scan
pub mod View
