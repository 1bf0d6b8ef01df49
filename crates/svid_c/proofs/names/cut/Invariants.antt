use Rattle.std.proofs.Common.{map}
use Rattle.std.specs.String.{string_bytes}
use Rattle.svid_c.proofs.NamesLemmas.{IsCutSoFar}
use Rattle.svid_c.proofs.names.cut.Given as goal

-- so many pieces are names, and the rest of the text stands behind them
abbrev pub invariant-loop-len : goal.invariant-loop-len
invariant-loop-len l = IsCutSoFar l.text l.lens (map string_bytes l.names.items) l.rest l.len-index
