-- What bytes mean as JSON, and what is read of an object.
use Rattle.std.specs.Prelude.{ℕ, ◌^◌, is_some, nat_lt, if◌then◌else◌, List, Option, Some, None, option_and_then}
use Rattle.std.specs.Str.{is_utf8}
use Rattle.serde_json.specs.Data.{Data}
use Rattle.serde_json.specs.Find.{as_number, as_object, as_str, as_u64, get}
use Rattle.serde_json.specs.Read.{read}

-- the value of bytes (RFC 8259), none where they are no UTF-8 or `serde_json` reads no value from them
unfoldable pub json_of : List ℕ → Option Data
json_of bytes = if is_utf8 bytes then read bytes else None

-- the value of bytes, if it is an object
abbrev pub object_of : List ℕ → Option Data
object_of bytes = option_and_then (λ d. if is_some (as_object d) then Some d else None) (json_of bytes)

-- the member of an object by its name, where there are both
abbrev pub member : List ℕ → Option Data → Option Data
member name object = option_and_then (get name) object

-- a time in seconds: a number that is read as unsigned, below 2^64 (RFC 7519, section 2, without fractions)
abbrev pub as_time : Data → Option ℕ
as_time d = option_and_then (λ n. if nat_lt n (2 ^ 64) then Some n else None) (option_and_then as_u64 (as_number d))

-- the member of a name, as a text
abbrev pub text_at : List ℕ → Data → Option (List ℕ)
text_at name d = option_and_then as_str (get name d)

-- the member of a name, as a time
abbrev pub time_at : List ℕ → Data → Option ℕ
time_at name d = option_and_then as_time (get name d)
