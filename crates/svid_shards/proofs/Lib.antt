pub mod BucketsLemmas
pub mod ShardsLemmas
