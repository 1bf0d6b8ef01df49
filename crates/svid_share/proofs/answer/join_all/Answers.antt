use Rattle.std.specs.List.{flat_map}
use Rattle.std.proofs.lemmas.Result.{IfOk-weaker}
use Rattle.svid_replay.specs.Buckets.{answer_to}
use Rattle.svid_replay.specs.Records.{State}
use Rattle.svid_replay.specs.Summary.{SummaryData}
use Rattle.svid_wire.specs.BatchText.{batch_text}
use Rattle.svid_share.specs.Answer.{answer_due}
use Rattle.svid_share.specs.Written.{IsDue}
use Rattle.svid_share.proofs.WrittenLemmas.{answered}
use Rattle.svid_share.proofs.answer.join_all.Goals as goal

pub returns-clause-ok : goal.returns-clause-ok
returns-clause-ok g c = IfOk-weaker _ _ (λ (r : State). (asked : SummaryData) → IsDue (answer_due asked) _ (flat_map batch_text (answer_to r asked))) (λ r joins asked. answered _ asked r joins) c.record_of.ensures.ok
