use Rattle.std.proofs.Common.{◌≡◌, ℕ, List, ◌++◌, map, Some}
use Rattle.std.specs.List.{Contains}
use Rattle.svid_allow.specs.Pattern.{pattern_parts}
use Rattle.svid_keys.specs.Lines.{lines_left, lines_of}
use Rattle.svid_c.specs.Own.{full_lines, names_of}
use Rattle.svid_c.proofs.callers.patterns_in.Given as goal

-- the patterns that came so far, and then those of the lines that are left, which are among all
abbrev pub invariant-loop-line : goal.invariant-loop-line
invariant-loop-line l =
    (goal.iterator-loop-line).can_next l.line-iterator ×
    (goal.iterator-loop-line).is_finite l.line-iterator ×
    (map pattern_parts (names_of l.text) ≡ map Some l.patterns.items ++ map pattern_parts (full_lines (lines_left l.line-iterator))) ×
    ((line : List ℕ) → Contains (lines_left l.line-iterator) line → Contains (lines_of l.text) line)
