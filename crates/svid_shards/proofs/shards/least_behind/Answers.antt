use Rattle.std.proofs.Common.{◌≡◌, ◌∙◌, None, ap, arith, false, get_or, subst, sym}
use Rattle.svid_replay.specs.Walks.{exp_if_any}
use Rattle.svid_shards.specs.Shards.{AreBehind, is_second}
use Rattle.svid_shards.proofs.ShardsLemmas.{below_more, least_found, none_in_front, second_at}
use Rattle.svid_shards.proofs.shards.least_behind.Goals as goal

pub loop-i-init : goal.loop-i-init
loop-i-init c = λ next are behind same j low. none_in_front next c.in-Some.used are behind j (omega (arith, low, c.shard_of-i.ensures.value))

pub loop-i-preserved : goal.loop-i-preserved
loop-i-preserved c = λ next are behind same.
    let heads = c.args.heads.now in
    let at = is_second c.in-Some.used.exp in
    below_more (λ j. at (exp_if_any (get_or next j None)) ≡ false) c.loop-i.i (c.loop-i.invariant next are behind same) (ap at (sym (second_at next heads c.loop-i.i same)) ∙ sym c.is_second.ensures ∙ c.if-is_second.false)

pub returns-then-is_second-clause-least : goal.returns-then-is_second-clause-least
returns-then-is_second-clause-least c = λ next are behind same.
    let used = c.in-Some.used in
    let behind_it = subst (λ last. AreBehind last next) c.in-Some.is behind in
    least_found next used c.loop-i.i are behind_it (c.loop-i.invariant next are behind_it same) (ap (is_second used.exp) (sym (second_at next c.args.heads.now c.loop-i.i same)) ∙ sym c.is_second.ensures ∙ c.if-is_second.true)
