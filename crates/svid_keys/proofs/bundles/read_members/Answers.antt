use Rattle.std.proofs.Common.{sym, ◌∙◌}
use Rattle.std.proofs.lemmas.Result.{err_from_is_err_and}
use Rattle.svid_keys.proofs.BundlesLemmas.{fault_next, reading_all, reading_more, reading_none}
use Rattle.svid_keys.proofs.bundles.read_members.Goals as goal

pub loop-name-init : goal.loop-name-init
loop-name-init c =
    let gives = c.into_iter-name-iterator.ensures.into_iter_gives in
    (tt, tt, reading_none c.args.members.now.entries _ _ c.new-domains.ensures.empty gives.0 gives.5)

pub returns-in_err-keys-clause-fault : goal.returns-in_err-keys-clause-fault
returns-in_err-keys-clause-fault c =
    let p = err_from_is_err_and c.from_residual.result c.from_residual.ensures.1 in
    rw (p.1, p.2) (fault_next _ _ _ _ _ _ _ _ _ c.loop-name.invariant.2 c.in-Some.ensures.steps c.as_str.ensures.value c.len.ensures.len c.in_err-keys.ensures.fault)

pub loop-name-preserved : goal.loop-name-preserved
loop-name-preserved c = (
  tt,
  tt,
  reading_more _ _ _ _ _ _ _ _ _ _ _ c.loop-name.invariant.2 c.in-Some.ensures.steps c.as_str.ensures.value c.len.ensures.len
      (c.in_ok-from_str.ensures.ok ∙ c.as_str-in-loop-name.ensures.value ∙ sym c.as_str.ensures.value)
      c.in_ok-insert.ensures c.in_ok-keys.ensures.accepted c.in_ok-keys.ensures.value c.in_ok-keys.ensures.next,
)

pub returns-clause-value : goal.returns-clause-value
returns-clause-value c = (reading_all _ _ _ c.loop-name.invariant.2 c.in-None.ensures.steps.0).0

pub returns-clause-accepted : goal.returns-clause-accepted
returns-clause-accepted c = (reading_all _ _ _ c.loop-name.invariant.2 c.in-None.ensures.steps.0).1
