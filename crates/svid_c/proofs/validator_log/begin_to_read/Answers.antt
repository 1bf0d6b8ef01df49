use Rattle.std.proofs.Common.{Some, ap, refl, subst, ◌∙◌}
use Rattle.svid_log.specs.Saves.{restored}
use Rattle.svid_log.specs.Values.{HasUses}
use Rattle.svid_c.specs.Log.{begins, beside_refused, mark_in, told_value, with_member}
use Rattle.svid_c.proofs.validator_log.begin_to_read.Goals as goal

pub returns-in-Some : goal.returns-in-Some
returns-in-Some c =
    beside_refused c.in-Ok.value.uses.items c.in-Some.fault (subst (HasUses c.args.beside.now c.in-Ok.value.uses.items) c.in-Some.is c.in-Ok.ensures)
    c.reason_number.ensures (c.told_value.ensures ∙ ap told_value c.in-Some.is) refl

pub returns-in-Ok-begun : goal.returns-in-Ok-begun
returns-in-Ok-begun c =
    let validator_id = c.args.live.now.validator.validator_id in
    begins c.in-Ok.value.uses.items (subst (HasUses c.args.beside.now c.in-Ok.value.uses.items) c.in-None.is c.in-Ok.ensures)
    refl (c.told_value.ensures ∙ ap told_value c.in-None.is)
    (ap (λ member. with_member c.args.live.now (Some member))
    (c.in-Ok-begun.ensures ∙ ap (λ mark. restored validator_id c.args.lasts mark c.args.ready c.deref.result.now) c.mark_in.ensures
    ∙ ap (restored validator_id c.args.lasts (mark_in c.args.mark.now) c.args.ready) c.deref.ensures.value))
