use Rattle.std.proofs.Common.{true, ◌≡◌, ◌+◌, ◌*◌, ◌/◌, ◌≤◌, ℕ, arith, ◌∙◌, ap, drop, length}
use Rattle.std.proofs.lemmas.Bool.{false≢true}
use Rattle.std.proofs.lemmas.List.{drop-drop}
use Rattle.svid_journal.specs.Reading.{crowd, later_cells}
use Rattle.svid_journal.proofs.ReadingLemmas.{crowd_next, crowded_before}
use Rattle.svid_journal.proofs.reader.is_crowded.Goals as goal

pub returns-then-more-bytes : goal.returns-then-more-bytes
returns-then-more-bytes c =
    let bytes = c.args.bytes.now in
    let number = c.args.number in
    let cell = c.loop-behind.before in
    let here : c.later_cells-more.result ≡ later_cells number cell (drop (8 * cell) bytes) = c.later_cells-more.ensures.value ∙ ap (later_cells number cell) c.loop-behind.invariant.there in
    let below : cell + 1 ≤ length bytes / 8 = omega (arith, c.loop-behind.invariant.count, c.loop-behind-test.true) in
    (λ t. crowded_before number bytes (cell + 1) below (omega (arith, crowd_next number bytes cell, c.loop-behind.invariant.sum, here, c.if-more-bytes.true)), λ many. λ i. true)

pub loop-behind-preserved : goal.loop-behind-preserved
loop-behind-preserved c =
    let bytes = c.args.bytes.now in
    let number = c.args.number in
    let cell = c.loop-behind.before in
    let here : c.later_cells-more.result ≡ later_cells number cell (drop (8 * cell) bytes) = c.later_cells-more.ensures.value ∙ ap (later_cells number cell) c.loop-behind.invariant.there in
    record {
      there = c.split_at.ensures.back ∙ ap (drop 8) c.loop-behind.invariant.there ∙ drop-drop 8 (8 * cell) bytes ∙ ap (λ (n : ℕ). drop n bytes) (omega arith);
      count = omega (arith, c.loop-behind.invariant.count, c.split_at.ensures.back_len);
      sum = omega (arith, crowd_next number bytes cell, c.loop-behind.invariant.sum, here);
      few = omega (arith, c.loop-behind.invariant.few, c.if-more-bytes.false);
    }

pub returns : goal.returns
returns c = (
  λ t. absurd (false≢true t),
  λ many.
      let all : length c.args.bytes.now / 8 ≡ c.loop-behind.before = omega (arith, c.loop-behind.invariant.count, c.loop-behind-test.false) in
      absurd (omega (arith, many, ap (crowd c.args.number c.args.bytes.now) all, c.loop-behind.invariant.sum, c.loop-behind.invariant.few)),
)
