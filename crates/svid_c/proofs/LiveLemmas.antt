use Rattle.std.proofs.Common.{◌≡◌, ℕ, true, false, List, [], Option, Some, None, Err, refl, sym, ap, subst, ◌∙◌}
use Rattle.std.specs.Prelude.{is_some}
use Rattle.std.proofs.lemmas.Bool.{false≢true}
use Rattle.svid_token.specs.declared.refusal.Refusal.{Refusal}
use Rattle.svid_keys.specs.Bundles.{Bundle}
use Rattle.svid_replay.specs.Records.{State, state_of}
use Rattle.svid_replay.specs.Summary.{SummaryData}
use Rattle.svid_check.specs.Changes.{IsWithdrawal, Replies, TakesRecord}
use Rattle.svid_check.specs.Said.{RefusesForm}
use Rattle.svid_check.specs.declared.take_fault.TakeFault.{TakeFault}
use Rattle.svid_check.specs.declared.withdraw_fault.WithdrawFault.{WithdrawFault}
use Rattle.svid_c.specs.Checked.{RefusesAs}
use Rattle.svid_c.specs.Inputs.{AreBundles}
use Rattle.svid_c.specs.Live.{CallsAt, HandleCallsAt, IsBegun, IsNotTaken, IsRest, IsTaken, Kept, ToValidator, closed_at, does_at, is_jump, jumped, none_held, too_far_on}
use Rattle.svid_c.specs.Status.{told_length}
use Rattle.svid_c.specs.declared.live.Live.{Live}
use Rattle.svid_c.specs.declared.told.SvidTold.{SvidTold}
use Rattle.svid_c.specs.declared.live.Nobody.{Nobody}
use Rattle.svid_c.specs.declared.validator_open.SvidTerms.{SvidTerms}

-- a validator made from the inputs begins
pub begun : (own : List (List ℕ)) (text : List ℕ) (terms : SvidTerms) (kept : List Bundle) (nobody : Nobody) (r : State)
    → AreBundles text kept → r ≡ state_of 0 []
    → IsBegun own text terms (record { validator = record { own = own; validator_id = terms.validator_id; ahead = terms.ahead; bundles = kept; verifier = nobody; longest = Some terms.longest; state = r }; step = terms.step; member = None; peer = None })
begun own text terms kept nobody r are new = record {
  kept = kept;
  nobody = nobody;
  are = are;
  held = ap (λ s. record { own = own; validator_id = terms.validator_id; ahead = terms.ahead; bundles = kept; verifier = nobody; longest = Some terms.longest; state = s }) new;
  step = refl;
  member = refl;
  peer = refl;
}

-- a call at a moment did this to what it took
pub handle_called : (now : ℕ) (B : Type 0) (D : Live → Live → Type 0) (status : ℕ) (told : SvidTold) (old mid new : Option Live) (live a b : Live)
    → IsTaken now old mid live → a ≡ live → new ≡ Some b → D a b → HandleCallsAt now B D status told old new
handle_called now B D status told old mid new live a b t is put does =
    does_at a b (t.held ∙ ap Some (sym is)) (ap (λ l. is_jump l now) is ∙ t.near) put does

-- a call at a moment did this to the validator that it took
pub called : (now : ℕ) (B : Type 0) (D : Kept → Kept → Type 0) (status : ℕ) (told : SvidTold) (old mid new : Option Live) (live a b : Live)
    → IsTaken now old mid live → a ≡ live → new ≡ Some b → IsRest a b → D a.validator b.validator → CallsAt now B D status told old new
called now B D status told old mid new live a b t is put rest does = handle_called now B (ToValidator D) status told old mid new live a b t is put (rest, does)

-- a call at a moment took none, and told so
pub not_called : (now : ℕ) (B : Type 0) (D : Live → Live → Type 0) (status given : ℕ) (told : SvidTold) (old new : Option Live)
    → IsNotTaken now old new given → status ≡ given → told ≡ told_length 0 → B → HandleCallsAt now B D status told old new
not_called now B D status given told old new (none_held held left number) is length before = closed_at held left (is ∙ number) length before
not_called now B D status given told old new (too_far_on live held far left number) is length before = jumped live held far left (is ∙ number) length before

-- what a withdrawal answers, where the fault is known
pub withdrawing_fault : (validator_id : List ℕ) (moment : ℕ) (key : List ℕ) (exp : ℕ) (f g : WithdrawFault) → f ≡ g → IsWithdrawal validator_id moment key exp (Err f) → IsWithdrawal validator_id moment key exp (Err g)
withdrawing_fault validator_id moment key exp f g is t = subst (λ h. IsWithdrawal validator_id moment key exp (Err h)) is t

-- what refuses a token for its form refuses it as just that
pub as_form : {A : Type 0} (token : List ℕ) (why : Refusal) → RefusesForm {A = A} token (Err why) → RefusesAs token why
as_form token why form = λ refusal first. cc (form refusal first)

-- what is some holds one
pub holds_one : {A : Type 0} (held : Option A) → true ≡ is_some held → (x : A) × (held ≡ Some x)
holds_one None is = absurd (false≢true (sym is))
holds_one (Some x) is = (x, refl)

-- what is not some holds none
pub holds_none : {A : Type 0} (held : Option A) → false ≡ is_some held → held ≡ None
holds_none None is = refl
holds_none (Some x) is = absurd (false≢true is)

-- what taking a record leaves, where the fault is known
pub taking_fault : (x : State) (far : ℕ) (r y : State) (f g : TakeFault) → f ≡ g → TakesRecord x far r (Err f) y → TakesRecord x far r (Err g) y
taking_fault x far r y f g is t = subst (λ h. TakesRecord x far r (Err h) y) is t

-- what answering a summary leaves, where the fault is known
pub answering_fault : (x : State) (far : ℕ) (s : SummaryData) (y : State) (f g : TakeFault) → f ≡ g → Replies x far s (Err f) y → Replies x far s (Err g) y
answering_fault x far s y f g is t = subst (λ h. Replies x far s (Err h) y) is t
