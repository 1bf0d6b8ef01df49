use Rattle.std.proofs.Common.{◌≡◌, take}
use Rattle.std.specs.List.{flat_map}
use Rattle.svid_wire.specs.BatchText.{batch_text}
use Rattle.svid_c.proofs.validator_answer.texts_of.Given as goal

-- the texts of so many batches were put
abbrev pub invariant-loop-batch : goal.invariant-loop-batch
invariant-loop-batch l = l.sink.bytes ≡ flat_map batch_text (take l.batch-index l.batches)
