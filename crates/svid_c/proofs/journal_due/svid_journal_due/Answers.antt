use Rattle.std.proofs.Common.{refl, ap, ◌∙◌}
use Rattle.svid_journal.specs.declared.fault.Fault.TheVariants.{Unfit}
use Rattle.svid_journal.specs.Folder.{ready_fault}
use Rattle.svid_c.specs.Journal.{call_of, of_folder, of_none, tells, untold}
use Rattle.svid_c.proofs.JournalLemmas.{due_told, due_untold}
use Rattle.svid_c.proofs.journal_due.svid_journal_due.Goals as goal

pub returns-in_default : goal.returns-in_default
returns-in_default c = untold Unfit (of_none c.in_default.ensures.none refl) refl refl

pub returns-in-Ok : goal.returns-in-Ok
returns-in-Ok c =
    let told = due_told c.in-Some.folder (ready_fault c.in-Some.folder) c.in-Ok.call c.in-Ok.ensures in
    tells c.in-Some.folder c.in-Some.ensures.some told.0 refl (c.call_of.ensures ∙ ap call_of told.1)

pub returns-in-Err : goal.returns-in-Err
returns-in-Err c = untold c.in-Err.fault (of_folder c.in-Some.folder c.in-Some.ensures.some (due_untold c.in-Some.folder (ready_fault c.in-Some.folder) c.in-Err.fault c.in-Err.ensures)) c.folder_number.ensures refl
