use Rattle.std.proofs.Common.{◌<◌, ◌≡◌, ◌∙◌, ◌∷◌, List, ap, arith, drop, length, subst, sym}
use Rattle.std.specs.List.{AllByRecursion, list_any}
use Rattle.std.specs.Ordering.{eq_by_cmp}
use Rattle.svid_replay.specs.Runs.{HasBits}
use Rattle.svid_replay.specs.Use.{use_cmp}
use Rattle.svid_replay.proofs.ListLemmas.{each_weaker}
use Rattle.svid_replay.proofs.RunsLemmas.{has_with, longer_by_one, run_grown, written_back}
use Rattle.svid_replay.proofs.run.Run.insert.Goals as goal

pub insert_use-requires-clause-bound : goal.insert_use-requires-clause-bound
insert_use-requires-clause-bound c = c.self.invariant.bound

pub insert_use-requires-clause-rising : goal.insert_use-requires-clause-rising
insert_use-requires-clause-rising c = c.self.invariant.rising

pub invariant_of-self-2 : goal.invariant_of-self-2
invariant_of-self-2 c =
    let back = written_back _ c.add.new.key_filter c.self.inside.key_filter.items (c.add.ensures.long ∙ c.deref_mut.ensures.len) in
    let known = c.in_ok-insert_use.ensures.known c.add.new.key_filter c.add.ensures.added (each_weaker (λ u. HasBits c.self.inside.key_filter.items u.key) _ (λ u has. c.add.ensures.others u.key (subst (λ ws. HasBits ws u.key) (sym c.deref_mut.ensures.value) has)) (drop c.self.inside.start c.self.inside.by_use.items) c.self.invariant.known) in
    run_grown _ _ _ _ c.in_ok-insert_use.ensures.bound c.in_ok-insert_use.ensures.rising c.self.invariant.sorted
    (subst (λ (ws : List _). 0 < length ws) (sym back) (omega (arith, c.add.ensures.long, ap length c.deref_mut.ensures.value, c.self.invariant.some)))
    (subst (λ ws. AllByRecursion (λ u. HasBits ws u.key) (drop c.self.inside.start c.insert_use.new.uses.items)) (sym back) known)

pub returns-clause-ok : goal.returns-clause-ok
returns-clause-ok c = λ q. has_with _ _ c.args.new c.self.invariant.rising c.in_ok-insert_use.ensures.ok q ∙ ap (λ us. list_any (eq_by_cmp use_cmp q) (c.args.new ∷ us)) c.self.view_is

pub returns-clause-less : goal.returns-clause-less
returns-clause-less c = omega (arith, longer_by_one _ _ c.args.new c.self.invariant.rising c.in_ok-insert_use.ensures.rising c.in_ok-insert_use.ensures.ok, ap length c.self.view_is)
