use Rattle.std.proofs.Common.{rules, sym, ◌∙◌}
use Rattle.svid_replay.proofs.TwiceLemmas.{has_listed_none, lists_group, lists_nothing, falls}
use Rattle.svid_replay.proofs.twice.list_groups.Goals as goal

pub loop-first-init : goal.loop-first-init
loop-first-init c = rw c.new-listed.ensures.items (has_listed_none _ c.requires)

pub loop-first-preserved-in_ok-push : goal.loop-first-preserved-in_ok-push
loop-first-preserved-in_ok-push c =
    lists_group _ _ _ _ _ _ _ c.from_vec-uses.result c.loop-first.invariant (record { is_first = sym c.in-Some.ensures.value; front = c.split_key.ensures.front; rest = c.split_key.ensures.rest }) (sym c.is_twice.ensures ∙ c.if-is_twice.true) (search rules) c.in_ok-push.ensures.items

pub loop-first-smaller : goal.loop-first-smaller
loop-first-smaller c = falls _ _ _ _ (record { is_first = sym c.in-Some.ensures.value; front = c.split_key.ensures.front; rest = c.split_key.ensures.rest })

pub loop-first-preserved : goal.loop-first-preserved
loop-first-preserved c =
    lists_nothing _ _ _ _ _ _ c.loop-first.invariant (record { is_first = sym c.in-Some.ensures.value; front = c.split_key.ensures.front; rest = c.split_key.ensures.rest }) (sym c.is_twice.ensures ∙ c.if-is_twice.false)
