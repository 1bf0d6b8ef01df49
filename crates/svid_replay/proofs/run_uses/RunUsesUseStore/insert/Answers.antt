use Rattle.std.proofs.Common.{◌∙◌, ◌∷◌, [], ap, rules, subst, sym}
use Rattle.std.proofs.lemmas.Bool.{false≢true}
use Rattle.std.specs.List.{list_any}
use Rattle.std.specs.Ordering.{eq_by_cmp}
use Rattle.svid_replay.specs.Runs.{all_of, IsRuns}
use Rattle.svid_replay.specs.Use.{use_cmp}
use Rattle.svid_replay.proofs.RunsLemmas.{rising_one, runs_all, runs_held, runs_lack, runs_merged}
use Rattle.svid_replay.proofs.run_uses.RunUsesUseStore.insert.Goals as goal

pub returns-then-any_holds-clause-ok : goal.returns-then-any_holds-clause-ok
returns-then-any_holds-clause-ok c = runs_held c.self.inside.runs.items _ c.args.new c.self.view_is (sym (c.any_holds.ensures ∙ ap (λ rs. list_any (eq_by_cmp use_cmp c.args.new) (all_of rs)) c.deref.ensures.value) ∙ c.if-any_holds.true)

pub returns-in_default-clause-held : goal.returns-in_default-clause-held
returns-in_default-clause-held c = λ has.
    absurd (false≢true (sym (runs_lack c.self.inside.runs.items _ c.args.new c.self.view_is (sym (c.any_holds.ensures ∙ ap (λ rs. list_any (eq_by_cmp use_cmp c.args.new) (all_of rs)) c.deref.ensures.value) ∙ c.if-any_holds.false)) ∙ has))

pub returns-in_err-put_one-clause-held : goal.returns-in_err-put_one-clause-held
returns-in_err-put_one-clause-held c = λ has.
    absurd (false≢true (sym (runs_lack c.self.inside.runs.items _ c.args.new c.self.view_is (sym (c.any_holds.ensures ∙ ap (λ rs. list_any (eq_by_cmp use_cmp c.args.new) (all_of rs)) c.deref.ensures.value) ∙ c.if-any_holds.false)) ∙ has))

pub invariant_of-self-2 : goal.invariant_of-self-2
invariant_of-self-2 c =
    let lacks = runs_lack c.self.inside.runs.items _ c.args.new c.self.view_is (sym (c.any_holds.ensures ∙ ap (λ rs. list_any (eq_by_cmp use_cmp c.args.new) (all_of rs)) c.deref.ensures.value) ∙ c.if-any_holds.false) in
    subst (IsRuns c.settle.new.runs.items) (search rules) (runs_merged _ c.settle.new.runs.items _ _ (runs_all c.self.inside.runs.items c.put_one.new.runs.items c.self.inside.total _ (c.args.new ∷ []) (record { is = c.self.invariant; view = c.self.view_is }) (rising_one c.args.new) (lacks, tt) c.in_ok-put_one.ensures.ok) c.settle.ensures).is

pub returns-clause-ok : goal.returns-clause-ok
returns-clause-ok c =
    let lacks = runs_lack c.self.inside.runs.items _ c.args.new c.self.view_is (sym (c.any_holds.ensures ∙ ap (λ rs. list_any (eq_by_cmp use_cmp c.args.new) (all_of rs)) c.deref.ensures.value) ∙ c.if-any_holds.false) in
    (runs_merged _ c.settle.new.runs.items _ _ (runs_all c.self.inside.runs.items c.put_one.new.runs.items c.self.inside.total _ (c.args.new ∷ []) (record { is = c.self.invariant; view = c.self.view_is }) (rising_one c.args.new) (lacks, tt) c.in_ok-put_one.ensures.ok) c.settle.ensures).view
