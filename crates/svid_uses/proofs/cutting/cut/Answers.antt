use Rattle.std.proofs.Common.{rules, sym}
use Rattle.svid_uses.proofs.CutLemmas.{cut_all, cut_none, cuts_more, fewer_left, is_batch_of, no_first, with_first}
use Rattle.svid_uses.proofs.cutting.cut.Goals as goal

pub loop-first-init : goal.loop-first-init
loop-first-init c = rw c.new-batches.ensures.items (cut_none _ c.requires.in_time c.requires.tellable)

pub from_good-requires : goal.from_good-requires
from_good-requires c = is_batch_of _ _ _ _ _ c.loop-first.invariant (with_first _ _ (sym c.in-Some.ensures.value)) (search rules)

pub loop-first-smaller : goal.loop-first-smaller
loop-first-smaller c = fewer_left _ _ _ (with_first _ _ (sym c.in-Some.ensures.value)) c.split_moment.ensures.rest

pub loop-first-preserved : goal.loop-first-preserved
loop-first-preserved c =
    cuts_more _ _ _ _ _ _ _ _ c.loop-first.invariant (with_first _ _ (sym c.in-Some.ensures.value)) (search rules) c.split_moment.ensures.rest c.from_good.ensures c.in_ok-push.ensures.items

pub returns : goal.returns
returns c = cut_all _ _ _ c.loop-first.invariant (no_first _ (sym c.in_default.ensures.value))
