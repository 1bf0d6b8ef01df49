use Rattle.std.proofs.Common.{Some, sym, ap, ◌∙◌}
use Rattle.svid_c.specs.Live.{does}
use Rattle.svid_c.proofs.validator_mark.svid_validator_go_on.Goals as goal

pub returns : goal.returns
returns c = does _ _ (sym c.in-Some.ensures.value ∙ ap Some (sym c.deref_mut.ensures.value)) c.put.ensures c.go_on-status.ensures
