use Rattle.std.proofs.Common.{refl, ap, ◌∙◌}
use Rattle.svid_journal.specs.declared.fault.Fault.TheVariants.{Unfit}
use Rattle.svid_journal.specs.Folder.{words_of}
use Rattle.svid_c.specs.Journal.{moves, of_folder, of_none, unmoved}
use Rattle.svid_c.proofs.journal_failed.svid_journal_failed.Goals as goal

pub returns-in_default : goal.returns-in_default
returns-in_default c = unmoved Unfit (of_none c.in_default.ensures.none refl) refl refl

pub returns-in-Ok : goal.returns-in-Ok
returns-in-Ok c = moves c.in-Some.folder c.in-Some.ensures.some c.in-Ok.ensures.ok.0 refl (c.of.ensures ∙ ap words_of c.in-Ok.ensures.ok.1)

pub returns-in-Err : goal.returns-in-Err
returns-in-Err c = unmoved c.in-Err.fault (of_folder c.in-Some.folder c.in-Some.ensures.some c.in-Err.ensures.err.0) c.folder_number.ensures refl
