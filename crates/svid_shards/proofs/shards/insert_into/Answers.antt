use Rattle.std.proofs.Common.{◌∙◌, ◌<◌, ap, arith, length, map, rules}
use Rattle.std.proofs.lemmas.List.{length-map}
use Rattle.svid_replay.specs.Sets.{with}
use Rattle.svid_replay.specs.Uses.{count}
use Rattle.svid_shards.specs.Shards.{shard}
use Rattle.svid_shards.proofs.ShardsLemmas.{put_counts, put_total, store_at, store_put, store_same}
use Rattle.svid_shards.proofs.shards.insert_into.Goals as goal

pub returns-in_err-insert-clause-err : goal.returns-in_err-insert-clause-err
returns-in_err-insert-clause-err g c =
    let same = store_same g.S.UseStore.content c.args.shards.now.items c.shard_of.result _ _ c.index_mut-store.ensures.value c.in_err-insert.ensures.err in
    search rules

pub overflow_sub-result : goal.overflow_sub-result
overflow_sub-result g c = omega (arith, c.len-before.ensures, c.len.ensures, ap count c.in_ok-insert.ensures.ok, (put_counts (g.S.UseStore.content c.index_mut-store.result.now) c.args.new).1)

pub returns-clause-ok : goal.returns-clause-ok
returns-clause-ok g c = store_put g.S.UseStore.content c.args.shards.now.items c.shard_of.result _ _ c.args.new (omega (arith, c.requires, c.shard_of.ensures.bound)) c.shard_of.ensures.value c.index_mut-store.ensures.value c.in_ok-insert.ensures.ok

pub returns-clause-more : goal.returns-clause-more
returns-clause-more g c =
    let f = g.S.UseStore.content in
    let stores = c.args.shards.now.items in
    let within : c.shard_of.result < length stores = omega (arith, c.requires, c.shard_of.ensures.bound) in
    let here = store_at f stores c.shard_of.result c.index_mut-store.result.now within c.index_mut-store.ensures.value ∙ ap (shard (map f stores)) c.shard_of.ensures.value in
    put_total (map f stores) _ c.args.new _ _
    (store_put f stores c.shard_of.result _ _ c.args.new within c.shard_of.ensures.value c.index_mut-store.ensures.value c.in_ok-insert.ensures.ok)
    (omega (arith, c.requires, c.shard_of.ensures.bound, c.shard_of.ensures.value, length-map stores f))
    (c.len-before.ensures ∙ ap count here) (c.len.ensures ∙ ap count (c.in_ok-insert.ensures.ok ∙ ap (λ s. with s c.args.new) here))
