use Rattle.std.proofs.Common.{◌≡◌, ◌∙◌, ap, sym, subst, List, IfOk}
use Rattle.std.specs.List.{AllByRecursion}
use Rattle.svid_replay.specs.declared.token_use.Use.{Use}
use Rattle.svid_replay.specs.Batches.{BatchData}
use Rattle.svid_replay.specs.Buckets.{raised_to, stale}
use Rattle.svid_replay.specs.Records.{State, IsHeldAt}
use Rattle.svid_replay.specs.Sets.{rising}
use Rattle.svid_replay.specs.Use.{use_cmp, IsRising}
use Rattle.svid_replay.proofs.BucketsLemmas.{answered, stale_is_held}
use Rattle.svid_replay.proofs.SetsLemmas.{rising_rises}
use Rattle.svid_replay.proofs.record.Record.answer.Goals as goal

pub cut-requires-clause-rising : goal.cut-requires-clause-rising
cut-requires-clause-rising g c =
    let are : c.deref.result.now ≡ rising (stale c.args.summary.now c.raise.new.self.uses) = c.deref.ensures.value ∙ c.in_ok-uses.ensures ∙ c.stale.ensures in
    subst IsRising (sym are) (rising_rises use_cmp _)

pub cut-requires-clause-held : goal.cut-requires-clause-held
cut-requires-clause-held g c =
    let are : c.deref.result.now ≡ rising (stale c.args.summary.now c.raise.new.self.uses) = c.deref.ensures.value ∙ c.in_ok-uses.ensures ∙ c.stale.ensures in
    subst (AllByRecursion (IsHeldAt c.self.inside.moment)) (sym (are ∙ ap (λ (s : State). rising (stale c.args.summary.now s.uses)) (sym c.self.view_is))) (stale_is_held c.args.summary.now _ c.self.invariant)

pub returns-clause-answer : goal.returns-clause-answer
returns-clause-answer g c =
    let are : c.deref.result.now ≡ rising (stale c.args.summary.now c.raise.new.self.uses) = c.deref.ensures.value ∙ c.in_ok-uses.ensures ∙ c.stale.ensures in
    let r : State = record { moment = c.self.inside.moment; uses = g.S.UseStore.content c.self.inside.store } in
    let raised : r ≡ raised_to c.args.self.now c.args.summary.now.moment = c.self.view_is ∙ c.raise.ensures.joined ∙ ap (raised_to c.args.self.now) c.moment.ensures.value in
    subst (λ (told : List BatchData). IfOk c.cut.result (λ batches. batches.items ≡ told)) (answered c.args.self.now r c.args.summary.now _ raised (are ∙ ap (λ (s : State). rising (stale c.args.summary.now s.uses)) (sym c.self.view_is))) c.cut.ensures
