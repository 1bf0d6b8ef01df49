use Rattle.std.proofs.Common.{◌≡◌, ◌∙◌, ap, arith, false, length, nat_lt, subst, sym}
use Rattle.std.specs.List.{filter, flat_map}
use Rattle.sha2.specs.Hashers.{Holds256}
use Rattle.sha2.specs.Sha256.{sha256}
use Rattle.svid_replay.specs.declared.token_use.Use.{Use}
use Rattle.svid_replay.specs.Use.{text_of}
use Rattle.svid_replay.proofs.ListLemmas.{filter-out}
use Rattle.svid_replay.proofs.StaleLemmas.{counts_all, counts_out, counts_some}
use Rattle.svid_replay.proofs.UsesLemmas.{rising-keep}
use Rattle.svid_replay.proofs.WalksLemmas.{walk_ends, walk_takes}
use Rattle.svid_shards.proofs.bucket_digest.digest_of.Goals as goal

pub loop-used-preserved : goal.loop-used-preserved
loop-used-preserved g c =
    let fails : nat_lt c.args.moment c.in-Some.used.exp ≡ false = sym c.is_live.ensures.live ∙ c.if-is_live.false in
    let takes = walk_takes _ _ _ _ _ _ _ c.of-used-items.ensures c.into_iter-used-iterator.ensures.into_iter_gives c.loop-used.yielded_by c.in-Some.ensures.steps in
    let some = counts_some _ _ _ _ _ _ c.loop-used.invariant.counted takes in
    record {
      text = subst (λ us. Holds256 c.loop-used.hasher (flat_map text_of us)) (sym (filter-out (λ (u : Use). nat_lt c.args.moment u.exp) c.loop-used.yielded c.in-Some.used fails)) c.loop-used.invariant.text;
      counted = counts_out _ _ _ _ _ _ c.loop-used.invariant.counted fails (omega (arith, some));
    }

pub returns-clause-digest : goal.returns-clause-digest
returns-clause-digest g c =
    let is_live = λ (u : Use). nat_lt c.args.moment u.exp in
    let ends = walk_ends _ _ _ _ _ c.of-used-items.ensures c.into_iter-used-iterator.ensures.into_iter_gives c.loop-used.yielded_by c.in-None.ensures.steps.0 in
    c.finalize.ensures _ c.loop-used.invariant.text ∙ ap (λ us. sha256 (flat_map text_of us)) (ap (filter is_live) (sym ends) ∙ sym (rising-keep is_live (g.S.UseStore.content c.args.store.now)))

pub returns-clause-uses : goal.returns-clause-uses
returns-clause-uses g c =
    let is_live = λ (u : Use). nat_lt c.args.moment u.exp in
    counts_all _ _ _ _ c.loop-used.invariant.counted (walk_ends _ _ _ _ _ c.of-used-items.ensures c.into_iter-used-iterator.ensures.into_iter_gives c.loop-used.yielded_by c.in-None.ensures.steps.0)
    ∙ ap length (sym (rising-keep is_live (g.S.UseStore.content c.args.store.now)))
