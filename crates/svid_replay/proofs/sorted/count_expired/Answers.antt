use Rattle.std.proofs.Common.{rules, not, nat_lt}
use Rattle.std.proofs.lemmas.List.Sorted.{IsPartitionPoint-from_clause}
use Rattle.svid_replay.proofs.ListLemmas.{prefix_from_point}
use Rattle.svid_replay.proofs.UsesLemmas.{expired_parted}
use Rattle.svid_replay.proofs.sorted.count_expired.Goals as goal

pub returns-in_default : goal.returns-in_default
returns-in_default c =
    prefix_from_point (λ u. not (nat_lt c.args.moment u.exp)) _ _ c.partition_point.ensures.bound (IsPartitionPoint-from_clause (λ u. not (nat_lt c.args.moment u.exp)) _ _ c.partition_point.ensures.partitioned (expired_parted c.args.moment _ c.requires) (λ a r q k. search rules))
