use Rattle.std.proofs.Common.{◌≡◌, map, take}
use Rattle.svid_c.specs.Entries.{use_of}
use Rattle.svid_c.proofs.entries_write.uses_of.Given as goal

abbrev pub invariant-loop-entry : goal.invariant-loop-entry
invariant-loop-entry l = l.uses.items ≡ map use_of (take l.entry-index l.entries)
