use Rattle.std.proofs.Common.{refl, rules}
use Rattle.svid_c.proofs.CallersLemmas.{is_among}
use Rattle.svid_c.proofs.callers.is_allowed.Goals as goal

pub returns-then-allows : goal.returns-then-allows
returns-then-allows c = (λ _. is_among c.args.patterns.now c.loop-pattern.pattern-index c.pattern-item.result c.args.id.now (search rules) (search rules), λ _. refl)
