use Rattle.std.proofs.Common.{rules, ◌≡◌, ℕ, List, ◌∷◌, ◌++◌, map, Some, suc, subst, sym, ap, ◌∙◌, arith}
use Rattle.std.specs.List.{Contains}
use Rattle.svid_allow.specs.Pattern.{pattern_parts}
use Rattle.svid_keys.specs.Lines.{lines_left, lines_of}
use Rattle.svid_c.specs.Own.{full_lines}
use Rattle.svid_c.proofs.callers.patterns_in.Goals as goal

behind : (first line : List ℕ) (lines : List (List ℕ)) → Contains lines line → Contains (first ∷ lines) line
behind first line lines (i, within, is) = (suc i, omega (arith, within), is)

pub loop-line-init : goal.loop-line-init
loop-line-init c = (tt, tt, search rules, search rules)

pub loop-line-preserved : goal.loop-line-preserved
loop-line-preserved c = (
  tt,
  tt,
  c.loop-line.invariant.2 ∙ ap (λ lines. map Some c.loop-line.patterns.items ++ map pattern_parts (full_lines lines)) c.in-Some.ensures.steps ∙ c.in_default.ensures.added (lines_left c.next.new.self),
  λ line there. c.loop-line.invariant.3 line (subst (λ lines. Contains lines line) (sym c.in-Some.ensures.steps) (behind c.in-Some.line.now line (lines_left c.next.new.self) there)),
)
