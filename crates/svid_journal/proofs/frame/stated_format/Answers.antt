use Rattle.std.proofs.Common.{arith, sym, ◌∙◌}
use Rattle.svid_journal.proofs.FramesLemmas.{same_code}
use Rattle.svid_journal.proofs.frame.stated_format.Goals as goal

pub returns-clause-each : goal.returns-clause-each
returns-clause-each c code fits states = omega (arith, same_code code c.stated_len.result fits (omega arith) (states ∙ sym c.stated_len.ensures))
