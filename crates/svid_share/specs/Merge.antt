-- What `svid merge` writes.
use Rattle.std.specs.Prelude.{◌≡◌, ℕ, List, Option}
use Rattle.svid_share.specs.Inputs.{all_of}
use Rattle.svid_share.specs.Joined.{HaveSame, joined, raised_to}
use Rattle.svid_wire.specs.RecordText.{record_text}
use Rattle.svid_wire.specs.declared.message.Message.{Message}

-- the text of the join of the batches of all inputs, advanced to the moment that is given
abbrev pub merge_due : Option ℕ → List (List Message) → List ℕ
merge_due now told = record_text (raised_to now (joined (all_of told)))

-- it is the same for any order of the batches, any number of times, and in any inputs
abbrev pub MergedByWhich : Type 0
MergedByWhich = (now : Option ℕ) (told others : List (List Message)) → HaveSame (all_of told) (all_of others) → merge_due now told ≡ merge_due now others
