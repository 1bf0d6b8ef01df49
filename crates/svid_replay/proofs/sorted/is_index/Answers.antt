use Rattle.std.proofs.Common.{◌∙◌, ◌≡◌, ◌<◌, ◌-◌, [], Some, false, get_or, ap, arith, sym}
use Rattle.std.specs.Ordering.{is_lt}
use Rattle.svid_replay.specs.Batches.{is_after}
use Rattle.svid_replay.specs.declared.token_use.Use.{Use}
use Rattle.svid_replay.proofs.UsesLemmas.{index_is}
use Rattle.svid_replay.proofs.sorted.is_index.Goals as goal
use Rattle.svid_replay.proofs.sorted.is_index.Goals.{then-index-gt0, else-index-gt0}

-- what an index past the end reads
none : Use
none = record { exp = 0; key = []; validator_id = []; at = 0; withdrawn = false }

pub returns-then-index-uses-2-clause-value : goal.returns-then-index-uses-2-clause-value
unfolding none
returns-then-index-uses-2-clause-value c = λ yes. index_is c.args.last.now c.args.uses.now c.args.index none none c.requires c.if-index-uses.false
    (λ some. elim c.if-index-gt0.branch as (λ _. is_after (Some c.args.last.now) (get_or c.args.uses.now (c.args.index - 1) none) ≡ false) [
      | then-index-gt0 w ↦ ap is_lt (sym w.cmp.ensures) ∙ sym w.is_lt.ensures ∙ sym w.value-is ∙ c.if-is_lt.false
      | else-index-gt0 w ↦ absurd (omega (arith, w.if-index-gt0, some))
    ])
    (λ within. absurd (omega (arith, within, c.if-index-uses-2.true)))

pub returns-else-index-uses-2-clause-value : goal.returns-else-index-uses-2-clause-value
unfolding none
returns-else-index-uses-2-clause-value c = λ yes. index_is c.args.last.now c.args.uses.now c.args.index none none c.requires c.if-index-uses.false
    (λ some. elim c.if-index-gt0.branch as (λ _. is_after (Some c.args.last.now) (get_or c.args.uses.now (c.args.index - 1) none) ≡ false) [
      | then-index-gt0 w ↦ ap is_lt (sym w.cmp.ensures) ∙ sym w.is_lt.ensures ∙ sym w.value-is ∙ c.if-is_lt.false
      | else-index-gt0 w ↦ absurd (omega (arith, w.if-index-gt0, some))
    ])
    (λ within. ap is_lt (sym c.cmp-else-index-uses-2.ensures) ∙ sym c.is_lt-else-index-uses-2.ensures ∙ yes)
