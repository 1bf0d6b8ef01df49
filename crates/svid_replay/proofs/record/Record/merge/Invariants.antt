use Rattle.std.proofs.Common.{◌≡◌}
use Rattle.svid_replay.specs.Records.{join, state_of}
use Rattle.svid_replay.proofs.record.Record.merge.Given as goal

abbrev pub invariant-loop-used : goal.invariant-loop-used
invariant-loop-used g l = l.self ≡ join l.fn.self (state_of l.other.moment l.yielded)
