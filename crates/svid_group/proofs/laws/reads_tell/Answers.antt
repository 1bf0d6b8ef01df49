use Rattle.svid_group.proofs.TellsLemmas.{reads_tell_first_claims, reads_tell_nothing_else, reads_tell_withdrawals}
use Rattle.svid_group.proofs.laws.reads_tell.Goals as goal

pub returns : goal.returns
returns c = record { withdrawals = reads_tell_withdrawals; claims = reads_tell_first_claims; only = reads_tell_nothing_else }
