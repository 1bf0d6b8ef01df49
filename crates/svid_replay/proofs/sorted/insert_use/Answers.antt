use Rattle.std.proofs.Common.{arith, ap, drop, length, subst, sym, ◌∙◌}
use Rattle.std.proofs.lemmas.Bool.{false≢true}
use Rattle.std.proofs.lemmas.List.{take_rest}
use Rattle.std.specs.List.{AllByRecursion}
use Rattle.svid_replay.specs.Runs.{HasBits}
use Rattle.svid_replay.specs.Use.{IsRising}
use Rattle.svid_replay.specs.Uses.{uses_in}
use Rattle.svid_replay.proofs.UsesLemmas.{drop-insert, index_from_search, index_rises, index_is_free, uses_in-insert, with-held, found_is_held}
use Rattle.svid_replay.proofs.RunsLemmas.{known_insert}
use Rattle.svid_replay.proofs.sorted.insert_use.Goals as goal

pub returns-in_err-insert-in-Err-clause-held : goal.returns-in_err-insert-in-Err-clause-held
returns-in_err-insert-in-Err-clause-held c =
    let uses = drop c.args.start c.args.uses.now.items in
    let part = take_rest c.deref.result.now c.args.start ∙ ap (drop c.args.start) c.deref.ensures.value in
    λ held. absurd (false≢true (sym (index_is_free uses _ _ (index_from_search uses _ _ c.requires.rising (omega (arith, c.in-Err.ensures.bound, ap length part)) (rw part at c.in-Err.ensures.position))) ∙ held))

pub returns-in-Ok-clause-ok : goal.returns-in-Ok-clause-ok
returns-in-Ok-clause-ok c =
    let uses = drop c.args.start c.args.uses.now.items in
    let part = take_rest c.deref.result.now c.args.start ∙ ap (drop c.args.start) c.deref.ensures.value in
    with-held (uses_in uses) c.args.new (found_is_held uses c.args.new c.in-Ok.field-0 (omega (arith, c.in-Ok.ensures.bound, ap length part)) (rw part at c.in-Ok.ensures.ok))

pub returns-in_ok-insert-in-Err-clause-rising : goal.returns-in_ok-insert-in-Err-clause-rising
returns-in_ok-insert-in-Err-clause-rising c =
    let uses = drop c.args.start c.args.uses.now.items in
    let part = take_rest c.deref.result.now c.args.start ∙ ap (drop c.args.start) c.deref.ensures.value in
    subst IsRising (sym (ap (drop c.args.start) c.in_ok-insert-in-Err.ensures.items ∙ drop-insert c.args.start c.in-Err.index c.args.uses.now.items c.args.new c.requires.bound))
    (index_rises uses _ _ c.requires.rising (index_from_search uses _ _ c.requires.rising (omega (arith, c.in-Err.ensures.bound, ap length part)) (rw part at c.in-Err.ensures.position)))

pub returns-in_ok-insert-in-Err-clause-ok : goal.returns-in_ok-insert-in-Err-clause-ok
returns-in_ok-insert-in-Err-clause-ok c =
    ap (λ us. uses_in (drop c.args.start us)) c.in_ok-insert-in-Err.ensures.items ∙ ap uses_in (drop-insert c.args.start c.in-Err.index c.args.uses.now.items c.args.new c.requires.bound) ∙ uses_in-insert (drop c.args.start c.args.uses.now.items) c.in-Err.index c.args.new

pub returns-in_ok-insert-in-Err-clause-known : goal.returns-in_ok-insert-in-Err-clause-known
returns-in_ok-insert-in-Err-clause-known c = λ key_filter here known.
    subst (AllByRecursion (λ u. HasBits key_filter u.key)) (sym (ap (drop c.args.start) c.in_ok-insert-in-Err.ensures.items ∙ drop-insert c.args.start c.in-Err.index c.args.uses.now.items c.args.new c.requires.bound)) (known_insert key_filter (drop c.args.start c.args.uses.now.items) c.in-Err.index c.args.new here known)
