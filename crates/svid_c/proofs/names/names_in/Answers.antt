use Rattle.std.proofs.Common.{rules, ◌≡◌, ℕ, List, ◌∷◌, ◌++◌, map, suc, subst, sym, ap, ◌∙◌, arith}
use Rattle.std.specs.Prelude.{All, IsUtf8}
use Rattle.std.specs.List.{Contains}
use Rattle.std.proofs.lemmas.List.Elements.{All-cons}
use Rattle.std.specs.String.{string_bytes}
use Rattle.svid_keys.specs.Lines.{lines_left, lines_of}
use Rattle.svid_c.specs.Own.{full_lines}
use Rattle.svid_c.proofs.names.names_in.Goals as goal

behind : (first line : List ℕ) (lines : List (List ℕ)) → Contains lines line → Contains (first ∷ lines) line
behind first line lines (i, within, is) = (suc i, omega (arith, within), is)

pub loop-line-init : goal.loop-line-init
loop-line-init c =
    let all : lines_left c.into_iter-line-iterator.result ≡ lines_of c.args.text.now = search rules in
    (tt, tt, search rules, search rules, λ left. subst (λ lines. All IsUtf8 lines) all left)

pub loop-line-preserved : goal.loop-line-preserved
loop-line-preserved c = (
  tt,
  tt,
  c.loop-line.invariant.2 ∙ ap (λ lines. map string_bytes c.loop-line.names.items ++ full_lines lines) c.in-Some.ensures.steps ∙ c.in_ok-push_line.ensures.added (lines_left c.next.new.self),
  λ line there. c.loop-line.invariant.3 line (subst (λ lines. Contains lines line) (sym c.in-Some.ensures.steps) (behind c.in-Some.line.now line (lines_left c.next.new.self) there)),
  λ rest. c.loop-line.invariant.4 (subst (λ lines. All IsUtf8 lines) (sym c.in-Some.ensures.steps) (All-cons IsUtf8 c.in-Some.line.now (lines_left c.next.new.self) c.in_ok-push_line.ensures.name rest)),
)
