pub mod Der
pub mod Jwk
pub mod Number
pub mod Rows
pub mod Spki
