pub mod CutLemmas
pub mod OneWayLemmas
pub mod TextsLemmas
pub mod TimeLemmas
