mod FailureLemmas
mod MistakeLemmas
