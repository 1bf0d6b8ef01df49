use Rattle.std.proofs.Common.{◌∙◌, ap, map, sym}
use Rattle.std.proofs.lemmas.Bool.{false≢true}
use Rattle.svid_replay.specs.Buckets.{bucket_of}
use Rattle.svid_replay.specs.Sets.{holds}
use Rattle.svid_shards.specs.Shards.{shard}
use Rattle.svid_shards.proofs.ShardsLemmas.{held_stays, put_is, put_view, shard_held}
use Rattle.svid_shards.proofs.sharded_uses.ShardedUsesUseStore.insert.Goals as goal

pub returns-then-shard_holds-clause-ok : goal.returns-then-shard_holds-clause-ok
returns-then-shard_holds-clause-ok g c =
    held_stays _ _ _ c.args.new _ c.self.invariant c.self.view_is (ap (λ stores. holds (shard (map g.S.UseStore.content stores) (bucket_of c.args.new)) c.args.new) (sym c.deref.ensures.value) ∙ sym c.shard_holds.ensures ∙ c.if-shard_holds.true)

pub returns-then-self-clause-held : goal.returns-then-self-clause-held
returns-then-self-clause-held g c = λ has.
    absurd (false≢true (sym c.if-shard_holds.false ∙ c.shard_holds.ensures ∙ ap (λ stores. holds (shard (map g.S.UseStore.content stores) (bucket_of c.args.new)) c.args.new) c.deref.ensures.value ∙ shard_held _ _ _ c.args.new _ c.self.invariant c.self.view_is has))

pub returns-in_err-more-clause-held : goal.returns-in_err-more-clause-held
returns-in_err-more-clause-held g c = λ has. absurd (false≢true (c.in_err-more.ensures.held (shard_held _ _ _ c.args.new _ c.self.invariant c.self.view_is has)))

pub invariant_of-self-2 : goal.invariant_of-self-2
invariant_of-self-2 g c = put_is _ _ _ _ _ _ c.args.new c.self.invariant c.in_ok-more.ensures.ok c.insert_into.ensures.index c.in_ok-more.ensures.more.1 c.min-self-inside.ensures

pub returns-clause-ok : goal.returns-clause-ok
returns-clause-ok g c = put_view _ _ _ _ c.args.new _ c.self.invariant c.self.view_is c.in_ok-more.ensures.ok c.insert_into.ensures.index
