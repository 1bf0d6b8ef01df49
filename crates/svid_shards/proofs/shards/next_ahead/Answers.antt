use Rattle.std.proofs.Common.{◌∙◌, Some, ap, arith, map, sym}
use Rattle.std.proofs.lemmas.List.{length-map, map-set}
use Rattle.std.proofs.Math.ListN.{set}
use Rattle.svid_replay.specs.Batches.{is_after}
use Rattle.svid_replay.specs.Sets.{rising}
use Rattle.svid_replay.specs.Uses.{next_above}
use Rattle.svid_replay.specs.Walks.{exp_if_any, heads_in}
use Rattle.svid_replay.proofs.UsesLemmas.{none_left}
use Rattle.svid_replay.proofs.WalksLemmas.{room_done}
use Rattle.svid_shards.specs.Shards.{all_in, heads_of, shard}
use Rattle.svid_shards.proofs.ShardsLemmas.{full_room, heads_all, heads_more, last_in, room_pushed, store_at}
use Rattle.svid_shards.proofs.shards.next_ahead.Goals as goal

pub returns-then-not-push-clause-next : goal.returns-then-not-push-clause-next
returns-then-not-push-clause-next g c = let so_far = c.loop-used.invariant in full_room _ _ _ _ so_far.parts so_far.few c.if-not-push.ensures.answer c.push.ensures.full

pub returns-then-not-push-clause-ahead : goal.returns-then-not-push-clause-ahead
returns-then-not-push-clause-ahead g c = λ known.
    let ss = map g.S.UseStore.content c.args.shards.now in
    c.in-Some.ensures.heads ∙ c.loop-used.invariant.heads ∙ heads_all ss c.loop-used.ahead.after c.requires.apart (omega (arith, c.requires.long, length-map c.args.shards.now g.S.UseStore.content)) ∙ ap (heads_in (all_in ss)) (sym c.in-Some.ensures.after)

pub loop-used-preserved : goal.loop-used-preserved
loop-used-preserved g c =
    let f = g.S.UseStore.content in
    let stores = c.args.shards.now in
    let ss = map f stores in
    let last = c.loop-used.ahead.after in
    let so_far = c.loop-used.invariant in
    let u = c.in-Some.used in
    let next = sym c.in-Some.ensures.next in
    let more = room_pushed ss last _ c.loop-used.room c.push.new.self u next so_far.few so_far.parts c.if-not-push.ensures.answer c.push.ensures.pushed in
    let index = c.shard_of-index.ensures.value in
    let here = store_at f stores c.shard_of-index.result c.index-shards-index.result (omega (arith, c.requires.long, c.shard_of-index.ensures.bound)) c.index-shards-index.is ∙ ap (shard ss) index in
    let head = c.exp_if_any.ensures ∙ ap exp_if_any (c.next_near-then.ensures ∙ ap (λ s. next_above s (Some u)) here) in
    record {
      known = c.in-Some.ensures.known ∙ so_far.known;
      heads = (λ i. set ((c.in-Some.ensures.heads ∙ so_far.heads) i) (index i) (head i)) ∙ sym (map-set exp_if_any (heads_of ss last) _ _) ∙ ap (map exp_if_any) (heads_more ss last u c.requires.apart next);
      after = last_in c.args.ahead.now.after c.loop-used.room c.push.new.self u c.if-not-push.ensures.answer c.push.ensures.pushed;
      few = more.few;
      parts = more.parts;
    }

pub returns-clause-next : goal.returns-clause-next
returns-clause-next g c =
    let ss = map g.S.UseStore.content c.args.shards.now in
    let so_far = c.loop-used.invariant in
    room_done 64 _ _ _ so_far.parts (none_left (is_after c.loop-used.ahead.after) (rising (all_in ss)) (sym c.in_default.ensures.next)) so_far.few

pub returns-clause-ahead : goal.returns-clause-ahead
returns-clause-ahead g c = λ known.
    let ss = map g.S.UseStore.content c.args.shards.now in
    c.in_default.ensures.heads ∙ c.loop-used.invariant.heads ∙ heads_all ss c.loop-used.ahead.after c.requires.apart (omega (arith, c.requires.long, length-map c.args.shards.now g.S.UseStore.content)) ∙ ap (heads_in (all_in ss)) (sym c.in_default.ensures.after)
