use Rattle.std.proofs.Common.{◌≡◌, ◌+◌, ◌*◌, ℕ, inl, inr, arith, sym, ◌∙◌, ap, subst, drop, length}
use Rattle.std.proofs.lemmas.Bool.{false≢true, cases_lt}
use Rattle.std.proofs.lemmas.List.{drop-drop}
use Rattle.svid_journal.specs.Titles.{bytes_of}
use Rattle.svid_journal.specs.Reading.{BeginsLater}
use Rattle.svid_journal.proofs.ReadingLemmas.{none_behind}
use Rattle.svid_journal.proofs.reader.has_later.Goals as goal

pub loop-rest-preserved : goal.loop-rest-preserved
loop-rest-preserved c =
    let bytes = c.args.bytes.now in
    let cell = c.loop-rest.cell in
    let next : c.split_at-in-loop-rest.result.1.now ≡ drop (8 * (cell + 1)) bytes =
    c.split_at-in-loop-rest.ensures.back ∙ ap (drop 8) c.loop-rest.invariant.there ∙ drop-drop 8 (8 * cell) bytes ∙ ap (λ (n : ℕ). drop n bytes) (omega arith) in
    record {
      there = next;
      count = omega (arith, c.loop-rest.invariant.count, c.split_at-in-loop-rest.ensures.back_len);
      none = λ k below b.
          elim (cases_lt k cell) [
            | inl before ↦ c.loop-rest.invariant.none k before b
            | inr behind ↦
                let is : k ≡ cell = omega (arith, behind, below) in
                let here = subst (λ (n : ℕ). BeginsLater (bytes_of c.args.title.now) c.args.number n (drop (8 * n) bytes)) is b in
                false≢true (sym c.if-begins_later.false ∙ c.begins_later.ensures.1 (subst (BeginsLater (bytes_of c.args.title.now) c.args.number cell) (sym c.loop-rest.invariant.there) here))
          ];
    }

pub returns : goal.returns
returns c = (
  λ t. absurd (false≢true t),
  λ h.
      elim (cases_lt h.0 c.loop-rest.cell) [
        | inl before ↦ absurd (c.loop-rest.invariant.none h.0 before h.1)
        | inr behind ↦ absurd (none_behind (bytes_of c.args.title.now) c.args.number h.0 c.loop-rest.cell c.args.bytes.now behind (omega (arith, ap length c.loop-rest.invariant.there, c.loop-rest-test.false)) h.1)
      ],
)
