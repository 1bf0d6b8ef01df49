use Rattle.std.proofs.Common.{arith, ◌∙◌, ap, take}
use Rattle.std.specs.Int.{from_be_bytes, w64}
use Rattle.svid_journal.proofs.FramesLemmas.{number_of_bytes}
use Rattle.svid_journal.proofs.frame.stated_number.Goals as goal

pub returns-clause-value : goal.returns-clause-value
returns-clause-value c = number_of_bytes c.u64_of.result c.split_at-2.result.0.now (omega arith) c.u64_of.ensures ∙ ap (from_be_bytes w64) (c.split_at-2.ensures.front ∙ ap (take 8) c.split_at.ensures.back)
