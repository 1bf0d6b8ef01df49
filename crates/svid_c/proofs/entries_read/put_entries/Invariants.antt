use Rattle.std.proofs.Common.{◌≡◌, ◌++◌, drop, map, take}
use Rattle.svid_c.specs.Entries.{entry_seen}
use Rattle.svid_c.proofs.entries_read.put_entries.Given as goal

-- so many uses were written
abbrev pub invariant-loop-i : goal.invariant-loop-i
invariant-loop-i l = l.out ≡ map entry_seen (take l.i l.uses) ++ drop l.i l.fn.out
