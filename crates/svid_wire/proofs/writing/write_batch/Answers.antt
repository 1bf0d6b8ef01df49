use Rattle.std.proofs.Common.{length}
use Rattle.svid_replay.specs.Use.{text_of}
use Rattle.svid_wire.specs.BatchText.{head_text}
use Rattle.svid_wire.specs.declared.version.Version.TheVariants.{Two}
use Rattle.svid_wire.proofs.BatchTextLemmas.{StoppedAfter-item}
use Rattle.svid_wire.proofs.writing.write_batch.Goals as goal

pub returns-in-Err-clause-err : goal.returns-in-Err-clause-err
returns-in-Err-clause-err g c =
    let (_, long, before, unstopped) = c.loop-used.invariant in
    let b = c.args.batch.now in
    StoppedAfter-item text_of _ _ _ _ _ _ (head_text Two b.moment (length b.uses)) _ _ b.uses c.loop-used.used-index _ _ _ c.uses-used-items.ensures.value c.loop-used-test.true c.text.ensures long before unstopped c.in-Err.ensures.err
