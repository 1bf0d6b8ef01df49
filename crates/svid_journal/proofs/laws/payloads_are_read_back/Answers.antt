use Rattle.svid_journal.proofs.PayloadsLemmas.{messages_have_no_position, positions_are_read_back}
use Rattle.svid_journal.proofs.laws.payloads_are_read_back.Goals as goal

pub returns-clause-positions : goal.returns-clause-positions
returns-clause-positions c = positions_are_read_back

pub returns-clause-messages : goal.returns-clause-messages
returns-clause-messages c = messages_have_no_position
