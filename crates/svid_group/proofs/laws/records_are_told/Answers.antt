use Rattle.svid_group.proofs.MadeLemmas.{told_were_made}
use Rattle.svid_group.proofs.SendsLemmas.{sends_make_equal}
use Rattle.svid_group.proofs.ToldLemmas.{checks_are_verdicts, equal_tellings, records_are_told, with_memory_verdicts}
use Rattle.svid_group.proofs.laws.records_are_told.Goals as goal

pub returns : goal.returns
returns c = record { records = records_are_told; checks = checks_are_verdicts; verdicts = with_memory_verdicts; made = told_were_made; equal = equal_tellings; taken = sends_make_equal }
