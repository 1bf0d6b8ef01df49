pub mod Buckets
pub mod Shards
