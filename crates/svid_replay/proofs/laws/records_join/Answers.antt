use Rattle.svid_replay.proofs.RecordsLemmas.{join_comm, join_assoc, join_self, join_closed}
use Rattle.svid_replay.proofs.laws.records_join.Goals as goal

pub returns : goal.returns
returns c = record { commutative = join_comm; associative = join_assoc; idempotent = join_self; closed = join_closed }
