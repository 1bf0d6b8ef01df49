use Rattle.std.proofs.Common.{ap, sym, ◌∙◌}
use Rattle.svid_replay.specs.Parts.{parts_of}
use Rattle.svid_wire.specs.RecordText.{record_text}
use Rattle.svid_check.specs.Told.{record_of}
use Rattle.svid_check.proofs.SendsLemmas.{sends_make_equal}
use Rattle.svid_check.proofs.SoundLemmas.{is_sound}
use Rattle.svid_check.proofs.laws.equal_tellings_give_equal_records.Goals as goal

pub returns-clause-equal : goal.returns-clause-equal
returns-clause-equal c group other events others v w told =
    let same = ((is_sound group events).members v).is_told ∙ ap record_of told ∙ sym ((is_sound other others).members w).is_told in
    (same, ap parts_of same, ap record_text same)

pub returns-clause-taken : goal.returns-clause-taken
returns-clause-taken c = sends_make_equal
