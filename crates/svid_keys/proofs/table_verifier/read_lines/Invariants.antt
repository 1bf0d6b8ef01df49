use Rattle.svid_keys.specs.Lines.{lines_left}
use Rattle.svid_keys.proofs.TableLemmas.{IsReadingLines}
use Rattle.svid_keys.proofs.table_verifier.read_lines.Given as goal

abbrev pub invariant-loop-line : goal.invariant-loop-line
invariant-loop-line l =
    (goal.iterator-loop-line).can_next l.line-iterator ×
    (goal.iterator-loop-line).is_finite l.line-iterator ×
    IsReadingLines l.text l.number l.questions.keys (lines_left l.line-iterator)
