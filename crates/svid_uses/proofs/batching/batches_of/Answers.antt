use Rattle.std.proofs.Common.{rules, subst, sym}
use Rattle.std.specs.List.{AllByRecursion}
use Rattle.svid_uses.specs.Batched.{AreCut}
use Rattle.svid_uses.specs.Time.{HasSameUses, IsTellable}
use Rattle.svid_uses.proofs.TimeLemmas.{each_same}
use Rattle.svid_uses.proofs.batching.batches_of.Goals as goal

pub cut-requires-clause-tellable : goal.cut-requires-clause-tellable
cut-requires-clause-tellable c =
    subst (AllByRecursion IsTellable) (sym c.deref.ensures.value) (each_same IsTellable c.args.uses.now c.in_time-sorted.result.items (subst (λ us. HasSameUses us c.in_time-sorted.result.items) (search rules) c.in_time-sorted.ensures.same) c.in_default.ensures)

pub returns-clause-ok : goal.returns-clause-ok
returns-clause-ok c = record {
  sorted = c.in_time-sorted.result.items;
  in_time = c.in_time-sorted.ensures.in_time;
  same = subst (λ us. HasSameUses us c.in_time-sorted.result.items) (search rules) c.in_time-sorted.ensures.same;
  cut = subst (λ us. AreCut us c.in_ok-cut.field-0.items) c.deref.ensures.value c.in_ok-cut.ensures;
}
