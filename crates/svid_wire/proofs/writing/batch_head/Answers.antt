use Rattle.svid_wire.specs.BatchText.{moment_and_count_text}
use Rattle.svid_wire.proofs.writing.batch_head.Goals as goal

pub returns : goal.returns
unfolding moment_and_count_text
returns c =
    rw (c.copy_from_slice.ensures.after, c.copy_from_slice-2.ensures.after, c.copy_from_slice-3.ensures.after, c.to_be_bytes.ensures, c.to_be_bytes-2.ensures)
