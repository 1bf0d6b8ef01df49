use Rattle.std.proofs.Common.{arith}
use Rattle.std.proofs.lemmas.Bool.{false≢true}
use Rattle.svid_journal.specs.Titles.{bytes_of}
use Rattle.svid_journal.proofs.ReadingLemmas.{format_is, later_is, no_later_frame}
use Rattle.svid_journal.proofs.reader.begins_later.Goals as goal
use Rattle.svid_journal.proofs.reader.begins_later.Goals.{then-stated-number-via-then-stated-number, then-stated-number-via-else-stated-number+then-stated-number-2, then-format-eq0-via-then-format-eq0, then-format-eq0-via-else-format-eq0+then-format}

pub returns-then-stated-number : goal.returns-then-stated-number
returns-then-stated-number c = (
  λ t. absurd (false≢true t),
  λ b.
      let is = later_is (bytes_of c.args.title.now) c.args.number c.args.cell c.stated_number-stated.result c.args.head.now c.args.bytes.now c.requires.1 c.stated_number-stated.ensures.bytes (omega arith) b in
      elim c.then-stated-number.branch [
        | then-stated-number-via-then-stated-number w ↦ absurd (omega (arith, is, b.is_later, w.if-stated-number.true))
        | then-stated-number-via-else-stated-number+then-stated-number-2 w ↦ absurd (omega (arith, is, b.is_near, w.if-stated-number-2.true))
      ],
)

pub returns-then-format-eq0 : goal.returns-then-format-eq0
returns-then-format-eq0 c = (
  λ t. absurd (false≢true t),
  λ b.
      let is = format_is b.format c.stated_format-format.result (bytes_of c.args.title.now) b.later b.payload b.rest c.args.head.now c.args.bytes.now (omega (arith, b.is_format.1)) b.bears c.stated_format-format.ensures.each c.requires.1 b.stands in
      elim c.then-format-eq0.branch [
        | then-format-eq0-via-then-format-eq0 w ↦ absurd (omega (arith, is, b.is_format.0, w.if-format-eq0.true))
        | then-format-eq0-via-else-format-eq0+then-format w ↦ absurd (omega (arith, is, b.is_format.1, w.if-format.true))
      ],
)

pub returns-in-None : goal.returns-in-None
returns-in-None c = (
  λ t. absurd (false≢true t),
  λ b. absurd (no_later_frame (bytes_of c.args.title.now) c.args.number c.args.cell c.stated_number-stated.result c.stated_format-format.result c.args.head.now c.args.bytes.now c.requires.1 c.stated_number-stated.ensures.bytes (omega arith) c.stated_format-format.ensures.each c.in-None.ensures.none b),
)
