use Rattle.std.proofs.Common.{refl, ap, ◌∙◌}
use Rattle.svid_replay.specs.Records.{State}
use Rattle.svid_c.specs.Log.{is_accepting, marks}
use Rattle.svid_c.specs.Status.{told_rows}
use Rattle.svid_c.proofs.validator_mark.tell_mark.Goals as goal

pub returns : goal.returns
returns c =
    marks c.in-Some.member c.in-Some.is refl
    (c.told_rows.ensures ∙ ap (told_rows 0) (c.is_accepting.ensures ∙ ap (is_accepting c.in-Some.member) (c.moment.ensures.value ∙ ap (λ (s : State). s.moment) c.replay.ensures.value)))
    c.mark_seen.ensures refl
