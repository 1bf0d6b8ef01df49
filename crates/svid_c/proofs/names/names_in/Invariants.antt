use Rattle.std.proofs.Common.{◌≡◌, ℕ, List, ◌++◌, map}
use Rattle.std.specs.Prelude.{All, IsUtf8}
use Rattle.std.specs.List.{Contains}
use Rattle.std.specs.String.{string_bytes}
use Rattle.svid_keys.specs.Lines.{lines_left, lines_of}
use Rattle.svid_c.specs.Own.{full_lines, names_of}
use Rattle.svid_c.proofs.names.names_in.Given as goal

-- the names that came so far, and then those of the lines that are left, which are among all; where these are UTF-8, all are
abbrev pub invariant-loop-line : goal.invariant-loop-line
invariant-loop-line l =
    (goal.iterator-loop-line).can_next l.line-iterator ×
    (goal.iterator-loop-line).is_finite l.line-iterator ×
    (names_of l.text ≡ map string_bytes l.names.items ++ full_lines (lines_left l.line-iterator)) ×
    ((line : List ℕ) → Contains (lines_left l.line-iterator) line → Contains (lines_of l.text) line) ×
    (All IsUtf8 (lines_left l.line-iterator) → All IsUtf8 (lines_of l.text))
