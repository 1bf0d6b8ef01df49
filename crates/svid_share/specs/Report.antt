-- What `svid report` prints.
use Rattle.std.specs.Prelude.{ℕ, Bool, List, [], ◌∷◌, ◌++◌, length, codes, Option, if◌then◌else◌}
use Rattle.std.specs.List.{flat_map}
use Rattle.std.specs.Fmt.{decimal}
use Rattle.hex.specs.Hex.{encode_lower}
use Rattle.svid_share.specs.Inputs.{all_of}
use Rattle.svid_share.specs.Joined.{joined, raised_to}
use Rattle.svid_replay.specs.declared.token_use.Use.{Use}
use Rattle.svid_wire.specs.declared.message.Message.{Message}
use Rattle.svid_replay.specs.Records.{State}
use Rattle.svid_replay.specs.Sets.{rising}
use Rattle.svid_replay.specs.Twice.{twice_of, used}
use Rattle.svid_replay.specs.declared.twice.Twice.{Twice}

-- the end of the line of a withdrawal
abbrev pub mark : Bool → List ℕ
mark withdrawn = if withdrawn then codes " withdrawn" else []

-- a use in a report: exp, key, validator ID and at, with one blank between, and the mark of a withdrawal
abbrev pub use_line : Use → List ℕ
use_line u = decimal u.exp ++ 32 ∷ [] ++ encode_lower u.key ++ 32 ∷ [] ++ encode_lower u.validator_id ++ 32 ∷ [] ++ decimal u.at ++ mark u.withdrawn ++ 10 ∷ []

-- a line with a number and its name
abbrev pub number_line : List ℕ → ℕ → List ℕ
number_line name n = name ++ 32 ∷ [] ++ decimal n ++ 10 ∷ []

-- a key that is used more than once, and how many uses have it
abbrev pub twice_line : Twice → List ℕ
twice_line t = encode_lower t.key ++ 32 ∷ [] ++ decimal (length t.uses) ++ 10 ∷ []

-- a report: the moment, the uses in rising order, withdrawals among them, and the keys that are used more than once
unfoldable pub report_text : ℕ → List Use → List Twice → List ℕ
report_text moment uses twice = number_line (codes "moment") moment ++ number_line (codes "uses") (length uses) ++ flat_map use_line uses ++ number_line (codes "twice") (length twice) ++ flat_map twice_line twice

-- the report of a record; a withdrawal is no use of a key
abbrev pub report_of : State → List ℕ
report_of r = report_text r.moment (rising r.uses) (twice_of (used (rising r.uses)))

-- the report of the batches of all inputs, advanced to the moment that is given
abbrev pub report_due : Option ℕ → List (List Message) → List ℕ
report_due now told = report_of (raised_to now (joined (all_of told)))
