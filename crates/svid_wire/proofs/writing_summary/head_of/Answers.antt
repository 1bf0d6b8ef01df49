use Rattle.svid_wire.specs.SummaryText.{moment_text}
use Rattle.svid_wire.proofs.writing_summary.head_of.Goals as goal

pub returns-clause-value : goal.returns-clause-value
unfolding moment_text
returns-clause-value c = rw (c.copy_from_slice.ensures.after, c.copy_from_slice-2.ensures.after, c.to_be_bytes.ensures, c.moment.ensures.value)
