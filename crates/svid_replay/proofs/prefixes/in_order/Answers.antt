use Rattle.std.proofs.lemmas.List.Sorted.{IsNonDecreasingBy-from_sort}
use Rattle.svid_replay.proofs.PrefixesLemmas.{same_numbers}
use Rattle.svid_replay.proofs.prefixes.in_order.Goals as goal

pub returns-clause-rising : goal.returns-clause-rising
returns-clause-rising c = IsNonDecreasingBy-from_sort (λ n. n) _ c.sort_unstable.ensures.sorted

pub returns-clause-same : goal.returns-clause-same
returns-clause-same c = same_numbers _ _ c.sort_unstable.ensures.permutation
