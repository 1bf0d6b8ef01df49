use Rattle.std.proofs.Common.{arith}
use Rattle.svid_journal.specs.Titles.{bytes_of}
use Rattle.svid_journal.proofs.ReadingLemmas.{front_is, no_other, too_short}
use Rattle.svid_journal.proofs.reader.other_format.Goals as goal
use Rattle.svid_journal.proofs.reader.other_format.Goals.{then-format-eq-FORMAT-via-then-format-eq-FORMAT, then-format-eq-FORMAT-via-else-format-eq-FORMAT+then-format-eq0, then-format-eq-FORMAT-via-else-format-eq-FORMAT+else-format-eq0+then-format}

pub returns-in_err-head : goal.returns-in_err-head
returns-in_err-head c = rw c.from_residual.ensures (λ h. too_short h.0 (bytes_of c.args.title.now) c.args.number h.1.payload h.1.rest c.args.bytes.now c.in_err-head.ensures h.1.stands)

pub returns-then-format-eq-FORMAT : goal.returns-then-format-eq-FORMAT
returns-then-format-eq-FORMAT c =
    no_other (bytes_of c.args.title.now) c.args.number c.stated_format-format.result c.in_ok-head.head.now c.args.bytes.now (front_is c.args.bytes.now c.in_ok-head.head.now _ c.in_ok-head.ensures.0 c.in_ok-head.ensures.1) c.stated_format-format.ensures.each
    (λ other format. absurd (elim c.then-format-eq-FORMAT.branch [
      | then-format-eq-FORMAT-via-then-format-eq-FORMAT w ↦ other w.if-format-eq-FORMAT.true
      | then-format-eq-FORMAT-via-else-format-eq-FORMAT+then-format-eq0 w ↦ omega (arith, format.0, w.if-format-eq0.true)
      | then-format-eq-FORMAT-via-else-format-eq-FORMAT+else-format-eq0+then-format w ↦ omega (arith, format.1, w.if-format.true)
    ]))

pub returns-in-None : goal.returns-in-None
returns-in-None c =
    no_other (bytes_of c.args.title.now) c.args.number c.stated_format-format.result c.in_ok-head.head.now c.args.bytes.now (front_is c.args.bytes.now c.in_ok-head.head.now _ c.in_ok-head.ensures.0 c.in_ok-head.ensures.1) c.stated_format-format.ensures.each (λ other format. c.in-None.ensures.none)
