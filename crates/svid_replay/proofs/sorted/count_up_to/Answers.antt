use Rattle.std.proofs.Common.{rules, not, Some}
use Rattle.std.proofs.lemmas.List.Sorted.{IsPartitionPoint-from_clause}
use Rattle.svid_replay.specs.Batches.{is_after}
use Rattle.svid_replay.proofs.ListLemmas.{prefix_from_point}
use Rattle.svid_replay.proofs.UsesLemmas.{not_after_parted}
use Rattle.svid_replay.proofs.sorted.count_up_to.Goals as goal

pub returns-clause-value : goal.returns-clause-value
returns-clause-value c =
    prefix_from_point (λ u. not (is_after (Some c.args.last.now) u)) _ _ c.partition_point.ensures.bound (IsPartitionPoint-from_clause (λ u. not (is_after (Some c.args.last.now) u)) _ _ c.partition_point.ensures.partitioned (not_after_parted c.args.last.now _ c.requires) (λ a r q k. search rules))
