use Rattle.std.proofs.Common.{◌++◌, List, ℕ, refl, subst, ap, arith, length}
use Rattle.std.proofs.lemmas.List.{take_all}
use Rattle.std.specs.Io.KnownBytes.{Appends}
use Rattle.std.specs.List.{flat_map}
use Rattle.svid_wire.specs.SummaryText.{summary_head, digest_text}
use Rattle.svid_wire.proofs.BatchTextLemmas.{StoppedAfter-item}
use Rattle.svid_wire.proofs.writing_summary.write_summary.Goals as goal

pub returns-in-Err-clause-err : goal.returns-in-Err-clause-err
returns-in-Err-clause-err g c =
    let (_, long, before, unstopped) = c.loop-digest.invariant in
    let s = c.args.summary.now in
    let items = c.digests-digest-items.result.now in
    StoppedAfter-item digest_text _ _ _ _ _ _ (summary_head s.moment) _ items s.digests c.loop-digest.digest-index _ _ _ c.digests-digest-items.ensures (omega (arith, c.head_of-head.ensures.summary.full, ap length c.digests-digest-items.ensures)) refl long before unstopped c.in-Err.ensures.err

pub returns-clause-ok : goal.returns-clause-ok
returns-clause-ok g c =
    let (_, _, before, unstopped) = c.loop-digest.invariant in
    let s = c.args.summary.now in
    let all = take_all c.loop-digest.digest-index s.digests (omega (arith, c.head_of-head.ensures.summary.full)) in
    record {
      gained = subst (λ (ds : List (List ℕ)). Appends (g.K.Sink.told c.args.sink.now) (g.K.Sink.told c.loop-digest.sink) (summary_head s.moment ++ flat_map digest_text ds)) all before;
      unstopped = unstopped;
    }
