use Rattle.std.proofs.Common.{refl, ap, ◌∙◌}
use Rattle.svid_journal.specs.declared.fault.Fault.TheVariants.{Unfit}
use Rattle.svid_journal.specs.Folder.{words_of}
use Rattle.svid_c.specs.Journal.{frames, of_folder, of_none, unframed}
use Rattle.svid_c.specs.Status.{told_length}
use Rattle.svid_c.proofs.journal_piece.svid_journal_piece.Goals as goal

pub returns-in_default : goal.returns-in_default
returns-in_default c = unframed Unfit (of_none c.in_default.ensures.none refl) c.only.ensures.status c.only.ensures.told refl refl

pub returns-in-Ok : goal.returns-in-Ok
returns-in-Ok c =
    frames c.in-Some.folder c.in-Some.ensures.some c.in-Ok.ensures.ok.0 refl (c.told_length.ensures ∙ ap told_length c.in-Ok.ensures.ok.1) c.in-Ok.ensures.frame (c.of.ensures ∙ ap words_of c.in-Ok.ensures.ok.2)

pub returns-in-Err : goal.returns-in-Err
returns-in-Err c = unframed c.in-Err.fault (of_folder c.in-Some.folder c.in-Some.ensures.some c.in-Err.ensures.err.0) c.refuse_frame.ensures.number c.refuse_frame.ensures.told c.in-Err.ensures.none refl
