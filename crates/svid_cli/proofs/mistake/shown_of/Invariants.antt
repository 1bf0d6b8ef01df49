use Rattle.std.proofs.Common.{◌≡◌, ◌++◌, drop}
use Rattle.svid_cli.specs.Mistake.{most_of_token, shown_from}
use Rattle.svid_cli.proofs.mistake.shown_of.Given as goal

-- what is shown of the bytes that are left ends the line
abbrev pub invariant-loop-byte : goal.invariant-loop-byte
invariant-loop-byte l = l.line.items ++ shown_from l.left (drop l.byte-index l.bytes) ≡ shown_from most_of_token l.bytes
