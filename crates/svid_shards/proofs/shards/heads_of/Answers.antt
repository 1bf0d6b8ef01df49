use Rattle.std.proofs.Common.{◌∙◌, ap, arith, map, rules, sym}
use Rattle.std.proofs.lemmas.List.{length-map}
use Rattle.svid_replay.specs.Uses.{next_above}
use Rattle.svid_replay.specs.Walks.{exp_if_any}
use Rattle.svid_shards.specs.Shards.{heads_of}
use Rattle.svid_shards.proofs.ShardsLemmas.{filled_more, head_at, second_at}
use Rattle.svid_shards.proofs.shards.heads_of.Goals as goal

pub loop-i-preserved : goal.loop-i-preserved
loop-i-preserved g c =
    let ss = map g.S.UseStore.content c.args.shards.now in
    let next = heads_of ss c.args.after in
    let here = head_at g.S.UseStore.content c.args.shards.now c.loop-i.i c.index-shards-i.result c.args.after c.next_after.result (omega (arith, c.requires)) c.index-shards-i.is c.next_after.ensures in
    record {
      long = search rules;
      filled = filled_more c.loop-i.heads (map exp_if_any next) c.loop-i.i c.exp_if_any.result (omega (arith, c.loop-i.invariant.long)) (omega (arith, c.requires, length-map c.args.shards.now g.S.UseStore.content, length-map ss (λ s. next_above s c.args.after), length-map next exp_if_any)) c.loop-i.invariant.filled
          (c.exp_if_any.ensures ∙ ap exp_if_any here ∙ sym (second_at next (map exp_if_any next) c.loop-i.i (λ j. map exp_if_any next)));
    }
