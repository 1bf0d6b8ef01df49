use Rattle.std.proofs.Common.{◌/◌, ℕ, sym, ◌∙◌, ap}
use Rattle.svid_journal.specs.Frames.{frame_len}
use Rattle.svid_journal.proofs.ReadingLemmas.{front_is, none_later, none_stated, some_later}
use Rattle.svid_journal.proofs.reader.later_cells.Goals as goal

pub returns-then-states_later-clause-value : goal.returns-then-states_later-clause-value
returns-then-states_later-clause-value c =
    ap (λ (n : ℕ). n / 8) (c.frame_len.ensures.value ∙ ap frame_len c.stated_payload.ensures.value)
    ∙ some_later c.args.number c.args.cell c.in-Some.head.now c.args.bytes.now (front_is c.args.bytes.now c.in-Some.head.now c.in-Some.field-0-1.now c.in-Some.ensures.0 c.in-Some.ensures.1) (sym c.states_later.ensures ∙ c.if-states_later.true)

pub returns-else-states_later-clause-value : goal.returns-else-states_later-clause-value
returns-else-states_later-clause-value c =
    none_later c.args.number c.args.cell c.in-Some.head.now c.args.bytes.now (front_is c.args.bytes.now c.in-Some.head.now c.in-Some.field-0-1.now c.in-Some.ensures.0 c.in-Some.ensures.1) (sym c.states_later.ensures ∙ c.if-states_later.false)

pub returns-in-None-clause-value : goal.returns-in-None-clause-value
returns-in-None-clause-value c = none_stated c.args.number c.args.cell c.args.bytes.now c.in-None.ensures
