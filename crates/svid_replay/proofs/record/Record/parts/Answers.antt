use Rattle.std.proofs.Common.{◌∙◌, sym, subst}
use Rattle.svid_replay.specs.Use.{use_cmp, IsRising}
use Rattle.svid_replay.proofs.PartsLemmas.{each_held}
use Rattle.svid_replay.proofs.SetsLemmas.{rising_rises}
use Rattle.svid_replay.proofs.record.Record.parts.Goals as goal

pub cut-requires-clause-rising : goal.cut-requires-clause-rising
cut-requires-clause-rising g c = subst IsRising (sym (c.deref.ensures.value ∙ c.in_ok-uses.ensures)) (rising_rises use_cmp _)

pub cut-requires-clause-held : goal.cut-requires-clause-held
cut-requires-clause-held g c =
    rw (c.deref.ensures.value, c.in_ok-uses.ensures, c.moment.ensures.value) (each_held c.args.self.now c.moment.ensures.is_record)
