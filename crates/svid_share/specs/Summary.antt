-- What `svid summary` writes.
use Rattle.std.specs.Prelude.{◌≡◌, ℕ, List}
use Rattle.svid_replay.specs.Buckets.{summary_of}
use Rattle.svid_wire.specs.SummaryText.{summary_text}
use Rattle.svid_wire.specs.declared.message.Message.{Message}
use Rattle.svid_share.specs.Inputs.{all_of}
use Rattle.svid_share.specs.Joined.{HaveSame, joined}

-- the text of the summary of the join of the batches of all inputs
abbrev pub summary_due : List (List Message) → List ℕ
summary_due told = summary_text (summary_of (joined (all_of told)))

-- it is the same for any order of the batches, any number of times, and in any inputs
abbrev pub SummarizedByWhich : Type 0
SummarizedByWhich = (told others : List (List Message)) → HaveSame (all_of told) (all_of others) → summary_due told ≡ summary_due others
