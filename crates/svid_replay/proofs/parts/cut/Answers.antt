use Rattle.std.proofs.Common.{◌≡◌, rules, arith, ◌∙◌}
use Rattle.svid_replay.proofs.PartsLemmas.{cuts_more, full_is_batch, last_is_batch, cuts_last}
use Rattle.svid_replay.proofs.parts.cut.Goals as goal

pub from_good-requires : goal.from_good-requires
from_good-requires c =
    let copied : c.in_ok-to_vec.field-0.items ≡ c.split_at.result.0.now = search rules in
    full_is_batch _ c.args.uses.now _ _ _ _ (omega arith) c.loop-rest.invariant (record { many = c.loop-rest-test.true; front = copied ∙ c.split_at.ensures.front; left = c.split_at.ensures.back })

pub loop-rest-preserved : goal.loop-rest-preserved
loop-rest-preserved c =
    let copied : c.in_ok-to_vec.field-0.items ≡ c.split_at.result.0.now = search rules in
    cuts_more _ c.args.uses.now _ _ _ _ _ _ c.loop-rest.invariant (record { many = c.loop-rest-test.true; front = copied ∙ c.split_at.ensures.front; left = c.split_at.ensures.back }) c.from_good.ensures c.in_ok-push.ensures.items

pub from_good-requires-2 : goal.from_good-requires-2
from_good-requires-2 c = last_is_batch _ c.args.uses.now _ _ _ (omega arith) c.loop-rest.invariant c.loop-rest-test.false (search rules)

pub returns : goal.returns
returns c =
    let copied : c.in_ok-to_vec-2.field-0.items ≡ c.loop-rest.rest.now = search rules in
    cuts_last _ c.args.uses.now _ _ _ _ _ c.loop-rest.invariant c.loop-rest-test.false copied c.from_good-2.ensures c.in_ok-push-2.ensures.items
