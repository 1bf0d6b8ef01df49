-- The payload of a token (RFC 7519, section 7.2).
use Rattle.std.specs.Prelude.{ℕ, List, Option, Result}
use Rattle.serde_json.specs.Data.{Data}
use Rattle.serde_json.specs.View.{view}
use Rattle.svid_token.specs.Object.{object_due, object_rows}
use Rattle.svid_token.specs.Rows.{Row}
use Rattle.svid_token.specs.declared.payload.Payload.{Payload}
use Rattle.svid_token.specs.declared.refusal.Refusal.{Refusal}
use Rattle.svid_token.specs.declared.refusal.Refusal.TheVariants.{PayloadSpelling, PayloadNotObject}

-- the refusals of a payload
abbrev pub payload_rows : List ℕ → List Row
payload_rows part = object_rows PayloadSpelling PayloadNotObject part

-- the answer that is due to a payload
abbrev pub payload_of : List ℕ → Result (Option Data) Refusal
payload_of part = object_due PayloadSpelling PayloadNotObject part

-- what contracts see of a payload: its JSON object
abbrev pub payload_object : Payload → Data
payload_object payload = view payload.object
