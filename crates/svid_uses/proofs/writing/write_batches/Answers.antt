use Rattle.std.proofs.Common.{[], ap, refl}
use Rattle.svid_wire.specs.BatchText.{batch_text}
use Rattle.svid_wire.proofs.BatchTextLemmas.{StoppedAfter-item}
use Rattle.svid_uses.proofs.writing.write_batches.Goals as goal

pub returns-in-Err-clause-part : goal.returns-in-Err-clause-part
returns-in-Err-clause-part g c =
    let (before, unstopped) = c.loop-batch.invariant in record {
      count = _;
      part = StoppedAfter-item batch_text _ _ _ _ _ _ [] _ c.args.batches.now c.args.batches.now c.loop-batch.batch-index _ _ _ refl c.loop-batch-test.true (ap batch_text c.batch-item.is) refl before unstopped c.in-Err.ensures.err;
    }
