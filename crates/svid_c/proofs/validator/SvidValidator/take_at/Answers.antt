use Rattle.std.proofs.Common.{refl, sym, ap, ◌∙◌}
use Rattle.svid_c.specs.Live.{is_jump, too_far_on}
use Rattle.svid_c.proofs.validator.SvidValidator.take_at.Goals as goal

pub returns-then-jumps-clause-not_taken : goal.returns-then-jumps-clause-not_taken
returns-then-jumps-clause-not_taken c =
    too_far_on c.in-Some.live.value (sym c.in-Some.ensures.value) (sym (c.if-jumps.ensures ∙ ap (λ l. is_jump l c.args.now) c.deref.ensures)) c.put.ensures refl
