use Rattle.std.proofs.Common.{◌≡◌, map, take}
use Rattle.svid_replay.specs.Keys.{expiry_of}
use Rattle.svid_replay.proofs.keys.keys_of.Given as goal

abbrev pub invariant-loop-used : goal.invariant-loop-used
invariant-loop-used l = l.keys.items ≡ map expiry_of (take l.used-index l.uses)
