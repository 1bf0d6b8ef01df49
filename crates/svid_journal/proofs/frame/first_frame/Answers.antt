use Rattle.std.proofs.Common.{arith, sym, ◌∙◌, refl}
use Rattle.std.proofs.lemmas.Bool.{false≢true}
use Rattle.std.proofs.lemmas.Bool.Decides.{Decides-eqb}
use Rattle.std.proofs.lemmas.Slice.Eq.{slice_eq-Decides}
use Rattle.svid_journal.specs.Titles.{bytes_of}
use Rattle.svid_journal.proofs.FramesLemmas.{none_short, none_format, none_body, none_tag, whole_frame}
use Rattle.svid_journal.proofs.frame.first_frame.Goals as goal

pub returns-in_err-stated-clause-none : goal.returns-in_err-stated-clause-none
returns-in_err-stated-clause-none c = rw c.from_residual.ensures (none_short c.args.format (bytes_of c.args.title.now) c.args.number c.args.bytes.now c.in_err-stated.ensures)

pub returns-then-code-format-clause-none : goal.returns-then-code-format-clause-none
returns-then-code-format-clause-none c =
    none_format c.args.format (bytes_of c.args.title.now) c.args.number c.stated_len-code.result c.args.bytes.now c.in_ok-stated.stated.now c.in_ok-stated.body.now (omega arith) c.in_ok-stated.ensures.0 c.in_ok-stated.ensures.1 (omega arith) c.stated_len-code.ensures c.if-code-format.true

pub returns-in_err-payload-clause-none : goal.returns-in_err-payload-clause-none
returns-in_err-payload-clause-none c =
    rw c.from_residual-in_err-payload.ensures
    (none_body c.args.format (bytes_of c.args.title.now) c.args.number c.stated_len-code.result _ c.args.bytes.now c.in_ok-stated.stated.now c.in_ok-stated.body.now (omega arith) c.in_ok-stated.ensures.0 c.in_ok-stated.ensures.1 (omega arith) c.stated_len-code.ensures refl c.in_err-payload.ensures.none)

pub returns-then-eq-clause-found : goal.returns-then-eq-clause-found
returns-then-eq-clause-found c = (
  whole_frame c.args.format (bytes_of c.args.title.now) c.args.number _ c.args.bytes.now c.in_ok-stated.stated.now c.in_ok-stated.body.now c.in_ok-payload.payload.now c.in_ok-payload.rest.now c.in_ok-stated.ensures.0 c.in_ok-payload.ensures.some.0 c.in_ok-payload.ensures.some.1 ((slice_eq-Decides Decides-eqb _ _ _ c.eq.ensures).0 c.if-eq.true ∙ c.as_slice.ensures ∙ c.head.ensures),
  omega (arith, c.in_ok-payload.ensures.some.1),
)

pub returns-else-eq-clause-none : goal.returns-else-eq-clause-none
returns-else-eq-clause-none c =
    none_tag c.args.format (bytes_of c.args.title.now) c.args.number c.stated_len-code.result _ c.args.bytes.now c.in_ok-stated.stated.now c.in_ok-stated.body.now c.in_ok-payload.payload.now _ (omega arith) c.in_ok-stated.ensures.0 c.in_ok-stated.ensures.1 (omega arith) c.stated_len-code.ensures refl c.in_ok-payload.ensures.some.0 c.in_ok-payload.ensures.some.1
    (λ e. false≢true (sym c.if-eq.false ∙ (slice_eq-Decides Decides-eqb _ _ _ c.eq.ensures).1 (e ∙ sym (c.as_slice.ensures ∙ c.head.ensures))))
