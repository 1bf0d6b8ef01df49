-- What judging a token by trust bundles alone does: there is no record.
use Rattle.std.specs.Prelude.{◌≡◌, ℕ, ◌<◌, ◌≤◌, List, [], length, Option, Some, Result, Ok, Err}
use Rattle.svid_id.specs.Id.{id_text}
use Rattle.svid_token.specs.Rows.{Refuses}
use Rattle.svid_token.specs.declared.refusal.Refusal.{Refusal}
use Rattle.svid_keys.specs.Bundles.{Bundle}
use Rattle.svid_replay.specs.Buckets.{raised_to}
use Rattle.svid_replay.specs.Records.{state_of}
use Rattle.svid_check.specs.Verdict.{verdict}
use Rattle.svid_check.specs.declared.accepted.Accepted.{Accepted}
use Rattle.svid_c.specs.Answered.{says_yes}
use Rattle.svid_c.specs.Checked.{RefusesAs, refusal_number, use_seen}
use Rattle.svid_c.specs.Status.{told_length}
use Rattle.svid_c.specs.Written.{HasFirst}
use Rattle.svid_c.specs.declared.check.SvidSetting.{SvidSetting}
use Rattle.svid_c.specs.declared.check.SvidUse.{SvidUse}
use Rattle.svid_c.specs.declared.told.SvidTold.{SvidTold}

-- the verdict of a validator with a new record on a token: it has these audiences and bundles, and the answer to exactly these questions is yes
abbrev pub verdict_alone : SvidSetting → List (List ℕ) → List Bundle → List (List ℕ) → List ℕ → Result (Option Accepted) Refusal
verdict_alone setting own bundles given token =
    let x = raised_to (state_of 0 []) setting.moment in
    verdict (record { own = own; validator_id = setting.validator_id; bundles = bundles; says = says_yes given; longest = Some setting.longest }) x.moment x.uses token

-- The call answers the verdict: the token is refused; or it is accepted, and the text of its ID and its use are written; or there is too little
-- room for an ID; or memory was refused.
pub data Judges (setting : SvidSetting) (given : List (List ℕ)) (token : List ℕ) (status : ℕ) (told : SvidTold) (old_out new_out : List ℕ) (old_use new_use : SvidUse) (own : List (List ℕ)) (bundles : List Bundle) : Type 0 where
  too_little_room : length old_out < 2048 → status ≡ 1 → told ≡ told_length 2048 → new_out ≡ old_out → new_use ≡ old_use → Judges setting given token status told old_out new_out old_use new_use own bundles
  judged_bad : (why : Refusal) → 2048 ≤ length old_out → Refuses why (verdict_alone setting own bundles given token) → RefusesAs token why
      → status ≡ refusal_number why → told ≡ told_length 0 → new_out ≡ old_out → new_use ≡ old_use → Judges setting given token status told old_out new_out old_use new_use own bundles
  judged_good : (a : Accepted) → 2048 ≤ length old_out → verdict_alone setting own bundles given token ≡ Ok (Some a)
      → status ≡ 0 → told ≡ told_length (length (id_text a.id)) → HasFirst (id_text a.id) old_out new_out → new_use ≡ use_seen a.used → Judges setting given token status told old_out new_out old_use new_use own bundles
  not_judged : status ≡ 2 → told ≡ told_length 0 → new_out ≡ old_out → new_use ≡ old_use → Judges setting given token status told old_out new_out old_use new_use own bundles

-- how the call answers a judgment
pub data TellsJudgment (answer : Result Accepted Refusal) (status : ℕ) (told : SvidTold) (old_out new_out : List ℕ) (old_use new_use : SvidUse) : Type 0 where
  no_room : length old_out < 2048 → status ≡ 1 → told ≡ told_length 2048 → new_out ≡ old_out → new_use ≡ old_use → TellsJudgment answer status told old_out new_out old_use new_use
  bad : (why : Refusal) → 2048 ≤ length old_out → answer ≡ Err why → status ≡ refusal_number why → told ≡ told_length 0 → new_out ≡ old_out → new_use ≡ old_use → TellsJudgment answer status told old_out new_out old_use new_use
  good : (a : Accepted) → 2048 ≤ length old_out → answer ≡ Ok a → status ≡ 0 → told ≡ told_length (length (id_text a.id)) → HasFirst (id_text a.id) old_out new_out → new_use ≡ use_seen a.used → TellsJudgment answer status told old_out new_out old_use new_use
