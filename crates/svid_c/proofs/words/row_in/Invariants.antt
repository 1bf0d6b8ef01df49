use Rattle.std.proofs.Common.{◌≡◌, drop}
use Rattle.svid_c.specs.Texts.{row_in}
use Rattle.svid_c.proofs.words.row_in.Given as goal

-- no row so far has the number
abbrev pub invariant-loop-row : goal.invariant-loop-row
invariant-loop-row l = row_in l.number l.none l.table ≡ row_in l.number l.none (drop l.row-index l.table)
