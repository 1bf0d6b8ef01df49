use Rattle.std.proofs.Common.{refl, ap, subst, ◌∙◌}
use Rattle.svid_replay.specs.Records.{State}
use Rattle.svid_check.specs.Setting.{with_state}
use Rattle.svid_check.specs.declared.take_fault.TakeFault.TheVariants.{TooFarAhead, OutOfMemory}
use Rattle.svid_c.proofs.LiveLemmas.{taking_fault}
use Rattle.svid_c.specs.Inputs.{Tells}
use Rattle.svid_c.specs.Live.{part, untaken, taken, too_far}
use Rattle.svid_c.proofs.validator_take.take.Goals as goal

pub returns-in-Err-clause-does : goal.returns-in-Err-clause-does
returns-in-Err-clause-does c = untaken c.in-Err.fault c.in-Err.ensures.fault c.refuse.ensures.number c.refuse.ensures.told refl

pub returns-in-Ok-clause-does : goal.returns-in-Ok-clause-does
returns-in-Ok-clause-does c =
    taken c.join_lent.new.target (subst (λ (s : State). Tells c.args.messages.now s c.join_lent.new.target) c.new-record.ensures c.in_default.ensures.ok)
    c.in-Ok.ensures.taken.0 refl c.told_length.ensures (c.in-Ok.ensures.rest ∙ ap (with_state c.args.live.now.validator) c.in-Ok.ensures.taken.1)

pub returns-in-Err-TooFarAhead-clause-does : goal.returns-in-Err-TooFarAhead-clause-does
returns-in-Err-TooFarAhead-clause-does c =
    too_far c.join_lent.new.target (subst (λ (s : State). Tells c.args.messages.now s c.join_lent.new.target) c.new-record.ensures c.in_default.ensures.ok)
    (taking_fault _ _ _ _ _ TooFarAhead c.in-Err-TooFarAhead.field-0-is c.in-Err-TooFarAhead.ensures.taken).0 refl c.told_length.ensures (c.in-Err-TooFarAhead.ensures.rest ∙ ap (with_state c.args.live.now.validator) (taking_fault _ _ _ _ _ TooFarAhead c.in-Err-TooFarAhead.field-0-is c.in-Err-TooFarAhead.ensures.taken).1)

pub returns-clause-does : goal.returns-clause-does
returns-clause-does c =
    part c.join_lent.new.target c.take_record.new.self.state (subst (λ (s : State). Tells c.args.messages.now s c.join_lent.new.target) c.new-record.ensures c.in_default.ensures.ok)
    (taking_fault _ _ _ _ _ OutOfMemory c.in-Err-OutOfMemory.field-0-is c.in-Err-OutOfMemory.ensures.taken).0 (taking_fault _ _ _ _ _ OutOfMemory c.in-Err-OutOfMemory.field-0-is c.in-Err-OutOfMemory.ensures.taken).1 refl c.told_length.ensures c.in-Err-OutOfMemory.ensures.rest
