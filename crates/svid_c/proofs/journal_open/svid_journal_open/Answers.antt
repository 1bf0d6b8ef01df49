use Rattle.std.proofs.Common.{refl}
use Rattle.svid_c.specs.Journal.{unstarted}
use Rattle.svid_c.proofs.journal_open.svid_journal_open.Goals as goal

pub returns-in-Err : goal.returns-in-Err
returns-in-Err c = unstarted c.in-Err.fault c.in-Err.ensures.err c.folder_number.ensures refl
