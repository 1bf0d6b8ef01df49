use Rattle.svid_replay.specs.Prefixes.{IsNoted}
use Rattle.svid_replay.proofs.record.Record.prefixes.Given as goal

abbrev pub invariant-loop-used : goal.invariant-loop-used
invariant-loop-used g l = IsNoted l.yielded l.key_filter.items l.prefixes.items
