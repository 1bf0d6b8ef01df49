use Rattle.std.proofs.Common.{◌≡◌, false, true, cond, rules, ap, ◌∙◌}
use Rattle.std.specs.Ordering.{eq_by_cmp}
use Rattle.svid_replay.specs.Indexed.{key_first_cmp, has_use, has_key_first}
use Rattle.svid_replay.proofs.IndexedLemmas.{uses_gained, indexed_gained, uses_same, indexed_same, not_held}
use Rattle.svid_replay.proofs.indexed_uses.insert_use.Goals as goal

pub returns-in_err-insert-clause-held : goal.returns-in_err-insert-clause-held
returns-in_err-insert-clause-held c = λ held. not_held c.args.by_use.now.keys c.args.new c.in_err-insert.ensures.absent held

pub returns-then-not-branch-clause-ok : goal.returns-then-not-branch-clause-ok
returns-then-not-branch-clause-ok c = uses_gained _ _ c.args.new c.in_ok-insert.ensures.updates.0

pub returns-in-Ok-clause-ok : goal.returns-in-Ok-clause-ok
returns-in-Ok-clause-ok c = uses_gained _ _ c.args.new c.in_ok-insert.ensures.updates.0

pub returns-in-Ok-clause-indexed : goal.returns-in-Ok-clause-indexed
returns-in-Ok-clause-indexed c =
    indexed_gained _ _ _ _ c.args.new c.requires c.insert.ensures.ordered c.insert-2.ensures.ordered (search rules) c.in_ok-insert.ensures.updates.0 (λ k. c.in-Ok.ensures.updates.0 k ∙ ap (λ f. cond (eq_by_cmp key_first_cmp f k) true (has_key_first c.args.by_key.now.keys k)) c.of.ensures)

pub returns-in-Err-clause-err : goal.returns-in-Err-clause-err
returns-in-Err-clause-err c =
    let absent : has_use c.args.by_use.now.keys c.args.new ≡ false = search rules in
    uses_same _ c.insert.new.self.keys _ c.args.new absent c.in_ok-insert.ensures.updates.0 c.remove.ensures.updates.0

pub returns-in-Err-clause-held : goal.returns-in-Err-clause-held
returns-in-Err-clause-held c = λ held.
    let absent : has_use c.args.by_use.now.keys c.args.new ≡ false = search rules in
    not_held c.args.by_use.now.keys c.args.new absent held

pub returns-in-Err-clause-indexed : goal.returns-in-Err-clause-indexed
returns-in-Err-clause-indexed c =
    let absent : has_use c.args.by_use.now.keys c.args.new ≡ false = search rules in
    indexed_same c.args.by_use.now.keys c.insert.new.self.keys _ _ _ c.args.new c.requires c.remove.ensures.ordered absent c.in_ok-insert.ensures.updates.0 c.remove.ensures.updates.0 c.in-Err.ensures.err
