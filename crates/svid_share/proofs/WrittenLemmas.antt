use Rattle.std.proofs.Common.{◌≡◌, List, [], ℕ, Option, ◌∙◌, ap}
use Rattle.std.specs.List.{flat_map}
use Rattle.svid_replay.specs.Buckets.{answer_to, summary_of}
use Rattle.svid_replay.specs.Records.{State, state_of}
use Rattle.svid_wire.specs.BatchText.{batch_text}
use Rattle.svid_replay.specs.Summary.{SummaryData}
use Rattle.svid_wire.specs.RecordText.{record_text}
use Rattle.svid_wire.specs.Streams.{Drawn}
use Rattle.svid_wire.specs.SummaryText.{summary_text}
use Rattle.svid_share.specs.Answer.{answer_due}
use Rattle.svid_share.specs.Inputs.{all_of}
use Rattle.svid_share.specs.Joined.{JoinsAll, joined, raised_to}
use Rattle.svid_share.specs.Merge.{merge_due}
use Rattle.svid_share.specs.Report.{report_due, report_of}
use Rattle.svid_share.specs.Summary.{summary_due}
use Rattle.svid_share.specs.Written.{IsDue}
use Rattle.svid_share.proofs.JoinedLemmas.{joined_from_nothing}

-- a new record to which all inputs were joined is the join of their batches
all_joined : (inputs : List Drawn) (second : State) → (joins : JoinsAll inputs (state_of 0 []) second) → second ≡ joined (all_of joins.told)
all_joined inputs second joins = joins.joins ∙ joined_from_nothing (all_of joins.told)

-- the report of a new record after all inputs were joined, advanced to the moment
pub reported : (inputs : List Drawn) (now : Option ℕ) (text : List ℕ) (second third : State) → JoinsAll inputs (state_of 0 []) second → third ≡ raised_to now second → text ≡ report_of third → IsDue (report_due now) inputs text
reported inputs now text second third joins raises tells = record {
  told = joins.told;
  whole = joins.whole;
  is = tells ∙ ap report_of (raises ∙ ap (raised_to now) (all_joined inputs second joins));
}

-- the text of a new record after all inputs were joined, advanced to the moment, is the merge
pub merged : (inputs : List Drawn) (now : Option ℕ) (second third : State) → JoinsAll inputs (state_of 0 []) second → third ≡ raised_to now second → IsDue (merge_due now) inputs (record_text third)
merged inputs now second third joins raises = record {
  told = joins.told;
  whole = joins.whole;
  is = ap record_text (raises ∙ ap (raised_to now) (all_joined inputs second joins));
}

-- the summary of a new record after all inputs were joined
pub summarized : (inputs : List Drawn) (summary : SummaryData) (second : State) → JoinsAll inputs (state_of 0 []) second → summary ≡ summary_of second → IsDue summary_due inputs (summary_text summary)
summarized inputs summary second joins is = record {
  told = joins.told;
  whole = joins.whole;
  is = ap summary_text (is ∙ ap summary_of (all_joined inputs second joins));
}

-- the answer of a new record after all inputs were joined
pub answered : (inputs : List Drawn) (asked : SummaryData) (second : State) → JoinsAll inputs (state_of 0 []) second → IsDue (answer_due asked) inputs (flat_map batch_text (answer_to second asked))
answered inputs asked second joins = record {
  told = joins.told;
  whole = joins.whole;
  is = ap (λ r. flat_map batch_text (answer_to r asked)) (all_joined inputs second joins);
}
