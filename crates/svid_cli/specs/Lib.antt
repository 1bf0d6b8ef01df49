pub mod Failure
pub mod HexByte
pub mod Input
pub mod Mistake
pub mod Sentence
pub mod TrustDomain
