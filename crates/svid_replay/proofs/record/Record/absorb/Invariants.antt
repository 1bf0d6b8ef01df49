use Rattle.std.proofs.Common.{◌≡◌, take}
use Rattle.svid_replay.specs.Records.{join, state_of}
use Rattle.svid_replay.proofs.record.Record.absorb.Given as goal

abbrev pub invariant-loop-used : goal.invariant-loop-used
invariant-loop-used g l = l.self ≡ join l.fn.self (state_of l.batch.moment (take l.used-index l.used-items))
