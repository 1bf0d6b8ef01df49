use Rattle.std.proofs.Common.{◌≡◌, ◌∙◌, ap, length, rules, sym, subst}
use Rattle.std.proofs.lemmas.List.{nil_from_length}
use Rattle.std.specs.List.{AllByRecursion}
use Rattle.svid_replay.specs.Runs.{all_of, new_among}
use Rattle.svid_replay.specs.Sets.{with_all}
use Rattle.svid_replay.proofs.RunsLemmas.{new_absent, new_rises, with_new}
use Rattle.svid_replay.proofs.run_uses.RunUsesUseStore.insert_all.Goals as goal

pub take-requires-clause-rising : goal.take-requires-clause-rising
take-requires-clause-rising c = new_rises _ c.args.uses.now _ c.in-Ok.ensures c.requires

pub take-requires-clause-new : goal.take-requires-clause-new
take-requires-clause-new c = subst (AllByRecursion _) (sym (c.in-Ok.ensures ∙ (λ i. new_among (all_of (c.deref.ensures.value i)) c.args.uses.now))) (new_absent (all_of c.self.inside.runs.items) _ c.args.uses.now c.self.view_is)

pub returns-then-is_empty-clause-all : goal.returns-then-is_empty-clause-all
returns-then-is_empty-clause-all c = λ _.
    let none : length c.in-Ok.new.items ≡ 0 = search rules in
    ap (with_all c.args.self.now) (sym (nil_from_length c.in-Ok.new.items none) ∙ c.in-Ok.ensures ∙ (λ i. new_among (all_of (c.deref.ensures.value i)) c.args.uses.now)) ∙ with_new (all_of c.self.inside.runs.items) _ c.args.uses.now c.self.view_is

pub returns-else-is_empty-clause-all : goal.returns-else-is_empty-clause-all
returns-else-is_empty-clause-all c = λ all.
    c.take.ensures.all all ∙ ap (with_all c.args.self.now) (c.in-Ok.ensures ∙ (λ i. new_among (all_of (c.deref.ensures.value i)) c.args.uses.now)) ∙ with_new (all_of c.self.inside.runs.items) _ c.args.uses.now c.self.view_is
