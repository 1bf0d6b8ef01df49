use Rattle.std.proofs.Common.{◌≡◌, ◌∙◌, ap, rules, slice_get, sym}
use Rattle.std.proofs.lemmas.List.{take_rest}
use Rattle.std.proofs.lemmas.List.Sorted.{IsPartitionPoint-from_clause}
use Rattle.std.specs.List.{prefix_len}
use Rattle.svid_replay.specs.Keys.{is_in_front_of}
use Rattle.svid_replay.proofs.KeysLemmas.{behind_parted, none_left, some_left}
use Rattle.svid_replay.proofs.ListLemmas.{prefix_from_point}
use Rattle.svid_replay.proofs.keys.has_left.Goals as goal

pub returns-in-None : goal.returns-in-None
returns-in-None c =
    let keys = c.args.keys.now in
    let test = is_in_front_of c.args.kind.now c.args.expired_by in
    let index : c.partition_point-index.result ≡ prefix_len test keys = prefix_from_point test _ _ c.partition_point-index.ensures.bound (IsPartitionPoint-from_clause test _ _ c.partition_point-index.ensures.partitioned (behind_parted c.args.kind.now c.args.expired_by keys c.requires) (λ a r q k. search rules)) in
    none_left c.args.kind.now c.args.expired_by keys _ c.requires index (ap (λ es. slice_get es 0) (sym (take_rest keys c.partition_point-index.result)) ∙ sym c.in-None.ensures.value)

pub returns-in-Some : goal.returns-in-Some
returns-in-Some c =
    let keys = c.args.keys.now in
    let test = is_in_front_of c.args.kind.now c.args.expired_by in
    let index : c.partition_point-index.result ≡ prefix_len test keys = prefix_from_point test _ _ c.partition_point-index.ensures.bound (IsPartitionPoint-from_clause test _ _ c.partition_point-index.ensures.partitioned (behind_parted c.args.kind.now c.args.expired_by keys c.requires) (λ a r q k. search rules)) in
    c.has_kind.ensures ∙ some_left c.args.kind.now c.args.expired_by keys _ c.in-Some.found.now c.requires index (ap (λ es. slice_get es 0) (sym (take_rest keys c.partition_point-index.result)) ∙ sym c.in-Some.ensures.value)
