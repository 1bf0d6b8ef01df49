-- What the calls on trust bundles that C keeps do.
use Rattle.std.specs.Prelude.{◌≡◌, ℕ, nat_lt, List, ◌++◌, length, take, Option, None, Some, Ok, Err}
use Rattle.std.specs.Int.{to_be_bytes, w32}
use Rattle.std.specs.List.{flat_map, slice_get}
use Rattle.svid_token.specs.Alg.{name_of}
use Rattle.svid_token.specs.Rows.{Refuses}
use Rattle.svid_token.specs.declared.alg.Alg.{Alg}
use Rattle.svid_token.specs.declared.refusal.Refusal.{Refusal}
use Rattle.svid_token.specs.declared.refusal.Refusal.TheVariants.{NoKey, OutOfMemory}
use Rattle.svid_keys.specs.Bundles.{Bundle}
use Rattle.svid_keys.specs.Key.{KeyData}
use Rattle.svid_keys.specs.Question.{field, question_of}
use Rattle.svid_check.specs.Said.{Said, reading_of}
use Rattle.svid_check.specs.Setting.{with_bundles}
use Rattle.svid_check.specs.Verdict.{keys_due}
use Rattle.svid_c.specs.Checked.{RefusesAs, refusal_number}
use Rattle.svid_c.specs.Inputs.{AreBundles, RefusesBundles}
use Rattle.svid_c.specs.Live.{Kept}
use Rattle.svid_c.specs.Status.{told_length, told_rows}
use Rattle.svid_c.specs.Written.{IsPut}
use Rattle.svid_c.specs.declared.bundles_question.SvidQuestion.{SvidQuestion}
use Rattle.svid_c.specs.declared.told.SvidTold.{SvidTold}
use Rattle.svid_c.specs.declared.trust.Trust.{Trust}

-- the trust bundles that a handle holds, if it is open
abbrev pub trusted : Option Trust → Option (List Bundle)
trusted None = None
trusted (Some trust) = trust.bundles

-- a handle holds the trust bundles that a text is
pub record HasRead (text : List ℕ) (new : Option Trust) : Type 0 where
  pub kept : List Bundle
  pub are : AreBundles text kept
  pub held : trusted new ≡ Some kept

-- what opening answers: the handle was open, and stays as it was; or it was closed, and holds the bundles that the text is; or they are
-- refused, and it is closed
pub data OpensBundles (text : List ℕ) (status : ℕ) (told : SvidTold) (old new : Option Trust) : Type 0 where
  held_already : (trust : Trust) → old ≡ Some trust → new ≡ old → status ≡ 6 → told ≡ told_length 0 → OpensBundles text status told old new
  opened : old ≡ None → HasRead text new → status ≡ 0 → told ≡ told_length 0 → OpensBundles text status told old new
  unopened : old ≡ None → new ≡ None → RefusesBundles text status told → OpensBundles text status told old new

-- what a call does with the bundles of a handle: it acts on them; or the handle is closed, the answer says so, and all is unchanged
pub data ReadsHeld {A : Type 0} (IsAsBefore : Type 0) (Does : A → Type 0) (status : ℕ) (told : SvidTold) (held : Option A) : Type 0 where
  none_read : held ≡ None → status ≡ 5 → told ≡ told_length 0 → IsAsBefore → ReadsHeld IsAsBefore Does status told held
  reads : (x : A) → held ≡ Some x → Does x → ReadsHeld IsAsBefore Does status told held

-- a call that reads what a handle holds, which stays as it was
pub record Reads (IsAsBefore : Type 0) (Does : List Bundle → Type 0) (status : ℕ) (told : SvidTold) (old new : Option Trust) : Type 0 where
  pub stays : new ≡ old
  pub does : ReadsHeld IsAsBefore Does status told (trusted old)

-- the row of a candidate: the algorithm's name, and the key
abbrev pub key_row : Alg → KeyData → List ℕ
key_row alg key = field (name_of alg) ++ field key.text

-- what a verifier needs for a token beside its keys: how many bytes the signature covers, in four bytes, and the signature
abbrev pub signing_of : Said → List ℕ
signing_of t = to_be_bytes w32 (length t.input) ++ field t.signature

-- For a token that says this, all that a verifier needs is written, with the rows of at most the first so many candidates, or has no room,
-- and the answer says whether there are more. Or the token is refused for its keys, or memory was refused. The validator is unchanged.
pub data Lists (t : Said) (most : ℕ) (status : ℕ) (told : SvidTold) (old_out new_out : List ℕ) (old new : Kept) : Type 0 where
  lists : (keys : List KeyData) (text : List ℕ) → keys_due old.bundles t ≡ Ok keys → text ≡ signing_of t ++ flat_map (key_row t.alg) (take most keys)
      → IsPut text status old_out new_out → told ≡ told_rows (length text) (nat_lt most (length keys)) → new ≡ old → Lists t most status told old_out new_out old new
  lists_none : (why : Refusal) → keys_due old.bundles t ≡ Err why → status ≡ refusal_number why → told ≡ told_length 0 → new_out ≡ old_out → new ≡ old → Lists t most status told old_out new_out old new
  no_memory_to_list : (keys : List KeyData) → keys_due old.bundles t ≡ Ok keys → status ≡ refusal_number OutOfMemory → told ≡ told_length 0 → new_out ≡ old_out → new ≡ old → Lists t most status told old_out new_out old new

-- The rows of at most the first so many candidates of a token are written, or have no room, and the answer says whether there are more. Or
-- the token is refused by itself, or for its keys, or memory was refused for the rows.
pub data ListsKeys (token : List ℕ) (most : ℕ) (status : ℕ) (told : SvidTold) (old_out new_out : List ℕ) (bundles : List Bundle) : Type 0 where
  listed : (t : Said) (keys : List KeyData) (text : List ℕ) → reading_of token ≡ Ok (Some t) → keys_due bundles t ≡ Ok keys → text ≡ flat_map (key_row t.alg) (take most keys)
      → IsPut text status old_out new_out → told ≡ told_rows (length text) (nat_lt most (length keys)) → ListsKeys token most status told old_out new_out bundles
  unread : (why : Refusal) → Refuses why (reading_of token) → RefusesAs token why → status ≡ refusal_number why → told ≡ told_length 0 → new_out ≡ old_out → ListsKeys token most status told old_out new_out bundles
  unknown : (t : Said) (why : Refusal) → reading_of token ≡ Ok (Some t) → keys_due bundles t ≡ Err why → status ≡ refusal_number why → told ≡ told_length 0 → new_out ≡ old_out → ListsKeys token most status told old_out new_out bundles
  no_memory : (t : Said) (keys : List KeyData) → reading_of token ≡ Ok (Some t) → keys_due bundles t ≡ Ok keys → status ≡ refusal_number OutOfMemory → told ≡ told_length 0 → new_out ≡ old_out → ListsKeys token most status told old_out new_out bundles

-- The answer is the question of the candidate with this number, counted from 0. Or there are no more candidates than the number says, or
-- the token is refused by itself, or for its keys.
pub data AsksOne (token : List ℕ) (number : ℕ) (status : ℕ) (told : SvidTold) (old_asked new_asked : SvidQuestion) (bundles : List Bundle) : Type 0 where
  asked : (t : Said) (keys : List KeyData) (key : KeyData) → reading_of token ≡ Ok (Some t) → keys_due bundles t ≡ Ok keys → slice_get keys number ≡ Some key
      → status ≡ 0 → told ≡ told_length 0 → new_asked ≡ record { bytes = question_of key t.alg t.input t.signature } → AsksOne token number status told old_asked new_asked bundles
  past : (t : Said) (keys : List KeyData) → reading_of token ≡ Ok (Some t) → keys_due bundles t ≡ Ok keys → slice_get keys number ≡ None
      → status ≡ refusal_number NoKey → told ≡ told_length 0 → new_asked ≡ old_asked → AsksOne token number status told old_asked new_asked bundles
  unasked : (why : Refusal) → Refuses why (reading_of token) → RefusesAs token why → status ≡ refusal_number why → told ≡ told_length 0 → new_asked ≡ old_asked → AsksOne token number status told old_asked new_asked bundles
  keyless : (t : Said) (why : Refusal) → reading_of token ≡ Ok (Some t) → keys_due bundles t ≡ Err why → status ≡ refusal_number why → told ≡ told_length 0 → new_asked ≡ old_asked → AsksOne token number status told old_asked new_asked bundles

-- a validator and a handle swap their trust bundles, if the handle is open; else the answer says so, and all is unchanged
pub data Exchanges (status : ℕ) (told : SvidTold) (old_held new_held : Option (List Bundle)) (old new : Kept) : Type 0 where
  exchanged : (bundles : List Bundle) → old_held ≡ Some bundles → new_held ≡ Some old.bundles → new ≡ with_bundles old bundles → status ≡ 0 → told ≡ told_length 0 → Exchanges status told old_held new_held old new
  none_held : old_held ≡ None → new_held ≡ old_held → new ≡ old → status ≡ 5 → told ≡ told_length 0 → Exchanges status told old_held new_held old new

-- the same for what a handle holds
abbrev pub ExchangesHeld : ℕ → SvidTold → Option Trust → Option Trust → Kept → Kept → Type 0
ExchangesHeld status told old_trust new_trust old new = Exchanges status told (trusted old_trust) (trusted new_trust) old new
