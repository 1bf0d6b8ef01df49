use Rattle.std.proofs.Common.{rules, ◌∙◌, ap}
use Rattle.std.proofs.lemmas.List.Sorted.{answers_always}
use Rattle.svid_replay.specs.Twice.{uses_of}
use Rattle.svid_replay.proofs.TwiceLemmas.{IsKeySorted-from_sort, uses_of-stable}
use Rattle.svid_replay.proofs.twice.sorted_by_key.Goals as goal

pub returns-clause-sorted : goal.returns-clause-sorted
returns-clause-sorted c =
    IsKeySorted-from_sort _ (c.in_ok-sort_by_key.ensures.sorted (λ u. u.key) (answers_always _ _ _ (λ f a r g h. search rules)))

pub returns-clause-stable : goal.returns-clause-stable
returns-clause-stable c = λ key.
    uses_of-stable key _ _ (c.sort_by_key.ensures.stable (λ u. u.key) (answers_always _ _ _ (λ f a r g h. search rules))) ∙ ap (uses_of key) (search rules)
