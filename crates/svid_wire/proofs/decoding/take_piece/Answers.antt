use Rattle.std.proofs.Common.{arith}
use Rattle.svid_wire.specs.Partial.{held_of}
use Rattle.svid_wire.proofs.FeedLemmas.{Appended-next, StopsIn-next}
use Rattle.svid_wire.proofs.decoding.take_piece.Goals as goal

pub returns-in-Err-clause-fault : goal.returns-in-Err-clause-fault
returns-in-Err-clause-fault c =
    let (_, before) = c.loop-rest.invariant in
    let (same, why) = c.in-Err.ensures.fault in
    StopsIn-next _ (held_of c.loop-rest.state) _ _ _ _ _ _ _ c.split_at.ensures.by_index.0 (omega (arith, c.missing.ensures.some, c.loop-rest-test.true)) before same why

pub loop-rest-preserved : goal.loop-rest-preserved
loop-rest-preserved c =
    let (_, before) = c.loop-rest.invariant in
    let (next, now) = c.in-Ok.ensures.ok in
    (next, Appended-next _ (held_of c.loop-rest.state) _ _ _ _ _ _ _ c.split_at.ensures.by_index.0 before now)
