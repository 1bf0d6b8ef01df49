use Rattle.svid_replay.proofs.BucketsLemmas.{answer_is_batches, own_summary_asks_nothing, raised_to_is_record}
use Rattle.svid_replay.proofs.laws.answers_are_batches.Goals as goal

pub returns : goal.returns
returns c = record { raised = raised_to_is_record; batches = answer_is_batches; own = own_summary_asks_nothing }
