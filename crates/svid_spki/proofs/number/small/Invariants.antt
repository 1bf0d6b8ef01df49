use Rattle.std.proofs.Common.{◌≡◌, ◌<◌, ◌^◌, drop}
use Rattle.std.specs.Prelude.{fold}
use Rattle.svid_spki.specs.Number.{value, with_byte}
use Rattle.svid_spki.proofs.number.small.Given as goal

-- the bytes that are left make the number of all of them
abbrev pub invariant-loop-byte : goal.invariant-loop-byte
invariant-loop-byte l = (fold with_byte l.number (drop l.byte-index l.bytes) ≡ value l.bytes) × (l.number < 2 ^ 31)
