-- What the answers that a caller brings have to do with a verifier of signatures: a table of questions, or a finding.
use Rattle.std.specs.Prelude.{◌≡◌, ◌≢◌, ◌==◌, ◌&&◌, ℕ, Bool, true, false, not, List, length, bytes_eq, Some}
use Rattle.std.specs.List.{Contains}
use Rattle.svid_token.specs.declared.alg.Alg.{Alg}
use Rattle.svid_keys.specs.Key.{KeyData}
use Rattle.svid_keys.specs.Question.{question_of}
use Rattle.svid_keys.specs.Table.{is_among, table_says}
use Rattle.svid_replay.specs.Uses.{Uses}
use Rattle.svid_check.specs.Said.{Said, said_of}
use Rattle.svid_check.specs.Setting.{Says, Setting}
use Rattle.svid_check.specs.Verdict.{keys_for, verdict, verdict_on}

-- the same setting with another verifier
abbrev pub with_says : Setting → Says → Setting
with_says s says = record { own = s.own; validator_id = s.validator_id; bundles = s.bundles; says = says; longest = s.longest }

-- of a token's candidates, the table has the questions of just those that the verifier says yes to
abbrev pub HasAnswers : Setting → Says → List (List ℕ) → List ℕ → Type 0
HasAnswers s says asked token = (t : Said) → said_of token ≡ Some t → (key : KeyData) → Contains (keys_for s.bundles t) key
    → is_among (question_of key t.alg t.input t.signature) asked ≡ says key t.alg t.input t.signature

-- then the verdict by the table is that by the verifier
abbrev pub TablesStand : Type 0
TablesStand = (s : Setting) (says : Says) (asked : List (List ℕ)) (moment : ℕ) (uses : Uses) (token : List ℕ) → HasAnswers s says asked token
    → verdict (with_says s (table_says asked)) moment uses token ≡ verdict (with_says s says) moment uses token

-- A finding of a verifier: this key, by its text, made this signature over these bytes. It says yes of these three alone, and of none where the
-- key has no text.
pub record Finding : Type 0 where
  pub key : List ℕ
  pub input : List ℕ
  pub signature : List ℕ

abbrev pub finding_says : Finding → KeyData → Alg → List ℕ → List ℕ → Bool
finding_says found key alg input signature =
    not (length found.key == 0) && (bytes_eq key.text found.key && (bytes_eq input found.input && bytes_eq signature found.signature))

-- a finding is about this token: its signature over its signing input, by one of its candidates
pub record IsFindingOf (s : Setting) (t : Said) (found : Finding) (key : KeyData) : Type 0 where
  pub candidate : Contains (keys_for s.bundles t) key
  pub text : key.text ≡ found.key
  pub some : length found.key ≢ 0
  pub input : t.input ≡ found.input
  pub signature : t.signature ≡ found.signature

-- a verifier that says no of each key
abbrev pub no_one_says : Says
no_one_says key alg input signature = false

-- then the verdict by the finding is that by each verifier that says yes of this candidate
abbrev pub FindingsStand : Type 0
FindingsStand = (s : Setting) (says : Says) (moment : ℕ) (uses : Uses) (t : Said) (found : Finding) (key : KeyData) → IsFindingOf s t found key
    → says key t.alg t.input t.signature ≡ true
    → verdict_on (with_says s (finding_says found)) moment uses t ≡ verdict_on (with_says s says) moment uses t

-- a finding of another token, by a key that is no candidate, or by none, is no answer: the verdict is the one where no key made the signature
abbrev pub OtherFindingsAreNone : Type 0
OtherFindingsAreNone = (s : Setting) (moment : ℕ) (uses : Uses) (t : Said) (found : Finding) → ((key : KeyData) → IsFindingOf s t found key → ⊥)
    → verdict_on (with_says s (finding_says found)) moment uses t ≡ verdict_on (with_says s no_one_says) moment uses t
