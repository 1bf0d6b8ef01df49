-- What the calls on a token that C keeps do.
use Rattle.std.specs.Prelude.{◌≡◌, ℕ, List, Option, None, Some, Ok}
use Rattle.svid_token.specs.Rows.{Refuses}
use Rattle.svid_token.specs.declared.refusal.Refusal.{Refusal}
use Rattle.svid_check.specs.Said.{Said, reading_of}
use Rattle.svid_c.specs.Checked.{RefusesAs, refusal_number}
use Rattle.svid_c.specs.Status.{told_length}
use Rattle.svid_c.specs.Trust.{ReadsHeld}
use Rattle.svid_c.specs.declared.told.SvidTold.{SvidTold}

-- what opening answers: the handle was open, and stays as it was; or it was closed, and holds what the token says; or the token is refused
-- by itself, and it is closed
pub data OpensToken (token : List ℕ) (status : ℕ) (told : SvidTold) (old new : Option Said) : Type 0 where
  read_already : (t : Said) → old ≡ Some t → new ≡ old → status ≡ 6 → told ≡ told_length 0 → OpensToken token status told old new
  was_read : (t : Said) → old ≡ None → reading_of token ≡ Ok (Some t) → new ≡ Some t → status ≡ 0 → told ≡ told_length 0 → OpensToken token status told old new
  not_read : (why : Refusal) → old ≡ None → new ≡ None → Refuses why (reading_of token) → RefusesAs token why → status ≡ refusal_number why → told ≡ told_length 0 → OpensToken token status told old new

-- a call that looks at what a handle of a token holds, which stays as it was
pub record ReadsToken (IsAsBefore : Type 0) (Does : Said → Type 0) (status : ℕ) (told : SvidTold) (old new : Option Said) : Type 0 where
  pub stays : new ≡ old
  pub does : ReadsHeld IsAsBefore Does status told old
