use Rattle.std.proofs.Common.{sym, ◌∙◌}
use Rattle.svid_uses.proofs.TimeLemmas.{is_first}
use Rattle.svid_uses.proofs.batching.first_expired.Goals as goal

pub returns-then-is_expired : goal.returns-then-is_expired
returns-then-is_expired c = is_first _ _ _ c.loop-index-test.true c.loop-index.invariant (sym c.is_expired.ensures.value ∙ c.if-is_expired.true)
