use Rattle.svid_replay.proofs.BatchesLemmas.{no_batch_at_fault}
use Rattle.svid_replay.proofs.batch.Batch.make.Goals as goal

pub returns-in-Some-clause-exact : goal.returns-in-Some-clause-exact
returns-in-Some-clause-exact c = (λ e. cc, λ b. absurd (no_batch_at_fault _ _ _ (rw c.deref.ensures.value at c.in-Some.ensures) b))
