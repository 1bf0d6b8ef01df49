-- What the calls on a validator that C keeps do.
use Rattle.std.specs.Prelude.{◌≡◌, ◌&&◌, IsTrue, ◌-◌, ℕ, Bool, true, false, ◌<◌, ◌≤◌, nat_lt, List, [], ◌∷◌, length, Option, None, Some, Result, Ok}
use Rattle.std.specs.List.{flat_map}
use Rattle.svid_id.specs.Id.{id_text}
use Rattle.svid_token.specs.Rows.{Refuses}
use Rattle.svid_token.specs.declared.refusal.Refusal.{Refusal}
use Rattle.svid_keys.specs.Bundles.{Bundle}
use Rattle.svid_replay.specs.Buckets.{answer_to, raised_to}
use Rattle.svid_replay.specs.Records.{State, IsPartlyJoined, join, state_of}
use Rattle.svid_replay.specs.declared.token_use.Use.{Use}
use Rattle.svid_replay.specs.Sets.{holds, rising}
use Rattle.svid_replay.specs.Summary.{SummaryData}
use Rattle.svid_wire.specs.BatchText.{batch_text}
use Rattle.svid_wire.specs.declared.message.Message.TheVariants.{Summary}
use Rattle.svid_log.specs.Members.{MemberState}
use Rattle.svid_check.specs.Changes.{gains, horizon, withdrawal}
use Rattle.svid_check.specs.Claiming.{IsLooked, is_claimed, unless_claimed}
use Rattle.svid_check.specs.Said.{Said}
use Rattle.svid_check.specs.Setting.{Held, Says, setting_by, with_bundles, with_state}
use Rattle.svid_check.specs.Verdict.{verdict_on}
use Rattle.svid_check.specs.declared.accepted.Accepted.{Accepted}
use Rattle.svid_share.specs.declared.tool_fault.ToolFault.{ToolFault}
use Rattle.svid_c.specs.Checked.{refusal_number, use_seen}
use Rattle.svid_c.specs.Inputs.{AreBundles, AreMessages, IsRefused, RefusesBundles, Tells}
use Rattle.svid_c.specs.Joined.{IsSummaryRefused}
use Rattle.svid_c.specs.Own.{Named}
use Rattle.svid_c.specs.Status.{fault_number, told_fault, told_length}
use Rattle.svid_c.specs.Written.{HasFirst, IsPut}
use Rattle.svid_c.specs.declared.check.SvidUse.{SvidUse}
use Rattle.svid_c.specs.declared.live.Live.{Live}
use Rattle.svid_c.specs.declared.live.Nobody.{Nobody}
use Rattle.svid_c.specs.declared.validator_check_token.Gain.{Gain}
use Rattle.svid_c.specs.declared.validator_check_token.Gain.TheVariants as gain
use Rattle.svid_c.specs.declared.validator_open.SvidTerms.{SvidTerms}
use Rattle.svid_c.specs.declared.own_fault.OwnFault.{OwnFault}
use Rattle.svid_c.specs.declared.told.SvidTold.{SvidTold}

-- a validator of C to contracts
abbrev pub Kept : Type 0
Kept = Held Nobody

-- a moment is more than its step past the record's; a record at moment 0 has seen no moment, and accepts any
abbrev pub is_jump : Live → ℕ → Bool
is_jump live now = nat_lt 0 live.validator.state.moment && nat_lt live.step (now - live.validator.state.moment)

-- the rest of the handle is unchanged: how far its clock may go, the position of its validator in a log, and its member
abbrev pub IsRest : Live → Live → Type 0
IsRest a b = (b.step ≡ a.step) × (b.member ≡ a.member) × (b.peer ≡ a.peer)

-- a call does something to the validator, and the rest is as it was
abbrev pub ToValidator : (Kept → Kept → Type 0) → Live → Live → Type 0
ToValidator Does a b = IsRest a b × Does a.validator b.validator

-- A call on a handle: if the handle is closed, the answer says so, and all is unchanged; else the call acts on what the handle holds.
pub data HandleCalls (IsAsBefore : Type 0) (Does : Live → Live → Type 0) (status : ℕ) (told : SvidTold) (old new : Option Live) : Type 0 where
  closed : old ≡ None → new ≡ None → status ≡ 5 → told ≡ told_length 0 → IsAsBefore → HandleCalls IsAsBefore Does status told old new
  does : (a b : Live) → old ≡ Some a → new ≡ Some b → Does a b → HandleCalls IsAsBefore Does status told old new

-- a call on a handle that does something to the validator alone
abbrev pub Calls : Type 0 → (Kept → Kept → Type 0) → ℕ → SvidTold → Option Live → Option Live → Type 0
Calls IsAsBefore Does = HandleCalls IsAsBefore (ToValidator Does)

-- A call at a moment: as `HandleCalls`, but if the moment is too far past the record's, the answer says so, and all is unchanged.
pub data HandleCallsAt (now : ℕ) (IsAsBefore : Type 0) (Does : Live → Live → Type 0) (status : ℕ) (told : SvidTold) (old new : Option Live) : Type 0 where
  closed_at : old ≡ None → new ≡ None → status ≡ 5 → told ≡ told_length 0 → IsAsBefore → HandleCallsAt now IsAsBefore Does status told old new
  jumped : (a : Live) → old ≡ Some a → is_jump a now ≡ true → new ≡ Some a → status ≡ 9 → told ≡ told_length 0 → IsAsBefore → HandleCallsAt now IsAsBefore Does status told old new
  does_at : (a b : Live) → old ≡ Some a → is_jump a now ≡ false → new ≡ Some b → Does a b → HandleCallsAt now IsAsBefore Does status told old new

-- a call at a moment that does something to the validator alone
abbrev pub CallsAt : ℕ → Type 0 → (Kept → Kept → Type 0) → ℕ → SvidTold → Option Live → Option Live → Type 0
CallsAt now IsAsBefore Does = HandleCallsAt now IsAsBefore (ToValidator Does)

-- what a call at a moment takes out of a handle: the validator that it holds, where the moment lies not too far past the record's
pub record IsTaken (now : ℕ) (old new : Option Live) (live : Live) : Type 0 where
  pub held : old ≡ Some live
  pub near : is_jump live now ≡ false
  pub out : new ≡ None

-- why it takes none: the handle is closed (5), or the moment lies too far past the record's (9). The handle stays as it was.
pub data IsNotTaken (now : ℕ) (old new : Option Live) (status : ℕ) : Type 0 where
  none_held : old ≡ None → new ≡ None → status ≡ 5 → IsNotTaken now old new status
  too_far_on : (live : Live) → old ≡ Some live → is_jump live now ≡ true → new ≡ Some live → status ≡ 9 → IsNotTaken now old new status

-- a validator begins with these audiences, trust bundles and terms, and a new record
pub record IsBegun (own : List (List ℕ)) (bundles : List ℕ) (terms : SvidTerms) (live : Live) : Type 0 where
  pub kept : List Bundle
  pub nobody : Nobody
  pub are : AreBundles bundles kept
  pub held : live.validator ≡ record { own = own; validator_id = terms.validator_id; ahead = terms.ahead; bundles = kept; verifier = nobody; longest = Some terms.longest; state = state_of 0 [] }
  pub step : live.step ≡ terms.step
  pub member : live.member ≡ None
  pub peer : live.peer ≡ None

-- what opening a closed handle with these audiences gives: it holds a validator that begins, or the bundles are refused
pub data Begins (bundles : List ℕ) (terms : SvidTerms) (status : ℕ) (told : SvidTold) (new : Option Live) (own : List (List ℕ)) : Type 0 where
  begun : (live : Live) → new ≡ Some live → IsBegun own bundles terms live → status ≡ 0 → told ≡ told_length 0 → Begins bundles terms status told new own
  not_begun : new ≡ None → RefusesBundles bundles status told → Begins bundles terms status told new own

-- what opening answers: the handle was open, and stays as it was; or it was closed, and is opened with the audiences that it is given
pub data Opens (AreOwn : List (List ℕ) → Type 0) (IsOwnFault : OwnFault → Type 0) (bundles : List ℕ) (terms : SvidTerms) (status : ℕ) (told : SvidTold) (old new : Option Live) : Type 0 where
  was_open : (live : Live) → old ≡ Some live → new ≡ old → status ≡ 6 → told ≡ told_length 0 → Opens AreOwn IsOwnFault bundles terms status told old new
  was_closed : old ≡ None → Named AreOwn IsOwnFault (new ≡ None) (Begins bundles terms status told new) status told → Opens AreOwn IsOwnFault bundles terms status told old new

-- a claim beside the record, where there is a log, has this key and is live at a moment
abbrev pub claimed_by : Option MemberState → ℕ → List ℕ → Bool
claimed_by None moment key = false
claimed_by (Some m) moment key = is_claimed m moment key

-- the verdict of a validator on what a token says, at a moment, by what a verifier says; one that reads a log refuses a token that is
-- claimed there
abbrev pub verdict_at : Live → Says → ℕ → Said → Result (Option Accepted) Refusal
verdict_at live says now t =
    let x = raised_to live.validator.state now in
    unless_claimed (claimed_by live.member x.moment) (verdict_on (setting_by says live.validator) x.moment x.uses t)

-- after a look at the claims beside the record, where there is a log
abbrev pub IsLookedBy : ℕ → Option MemberState → Option MemberState → Type 0
IsLookedBy moment None new = new ≡ None
IsLookedBy moment (Some m) new = (n : MemberState) × (new ≡ Some n) × IsLooked moment m n

-- what a judgment or a check at a moment leaves: the record is now r, and of the claims beside it those that have expired may be gone
pub record IsLeft (now : ℕ) (r : State) (a b : Live) : Type 0 where
  pub validator : b.validator ≡ with_state a.validator r
  pub step : b.step ≡ a.step
  pub peer : b.peer ≡ a.peer
  pub member : IsLookedBy (raised_to a.validator.state now).moment a.member b.member

-- a check adds the use that it accepts
abbrev pub adds : State → Use → State
adds r used = gains r (Some used)

-- a judgment adds nothing
abbrev pub adds_nothing : State → Use → State
adds_nothing r used = r

-- What a check does: there is too little room for an ID, and nothing happens; or the record is advanced, and the token is refused or accepted by its
-- verdict at that record. For an accepted token, the text of its ID and its use are written, and the record gains this.
pub data Checks (gained : State → Use → State) (now : ℕ) (says : Says) (t : Said) (status : ℕ) (told : SvidTold) (old_out new_out : List ℕ) (old_use new_use : SvidUse) (old new : Live) : Type 0 where
  no_room : length old_out < 2048 → status ≡ 1 → told ≡ told_length 2048 → new_out ≡ old_out → new_use ≡ old_use → new ≡ old → Checks gained now says t status told old_out new_out old_use new_use old new
  refused : (why : Refusal) → 2048 ≤ length old_out → Refuses why (verdict_at old says now t)
      → status ≡ refusal_number why → told ≡ told_length 0 → new_out ≡ old_out → new_use ≡ old_use → IsLeft now (raised_to old.validator.state now) old new → Checks gained now says t status told old_out new_out old_use new_use old new
  accepted : (a : Accepted) → 2048 ≤ length old_out → verdict_at old says now t ≡ Ok (Some a)
      → status ≡ 0 → told ≡ told_length (length (id_text a.id)) → HasFirst (id_text a.id) old_out new_out
      → new_use ≡ use_seen a.used → IsLeft now (gained (raised_to old.validator.state now) a.used) old new → Checks gained now says t status told old_out new_out old_use new_use old new

-- What a check by itself does: if the validator reads a log, the answer says so, and nothing happens; else it is a check that adds the use that it
-- accepts.
pub data ChecksAlone (now : ℕ) (says : Says) (t : Said) (status : ℕ) (told : SvidTold) (old_out new_out : List ℕ) (old_use new_use : SvidUse) (old new : Live) : Type 0 where
  reads_log : (m : MemberState) → old.member ≡ Some m → status ≡ 10 → told ≡ told_length 0 → new_out ≡ old_out → new_use ≡ old_use → new ≡ old → ChecksAlone now says t status told old_out new_out old_use new_use old new
  alone : old.member ≡ None → Checks adds now says t status told old_out new_out old_use new_use old new → ChecksAlone now says t status told old_out new_out old_use new_use old new

-- what the record gains of a token that is accepted
abbrev pub gained_by : Gain → State → Use → State
gained_by gain.ItsUse = adds
gained_by gain.Nothing = adds_nothing

-- what renewing the bundles does: other bundles replace the old ones; or they are refused, and nothing happens
pub data Renews (text : List ℕ) (status : ℕ) (told : SvidTold) (old new : Kept) : Type 0 where
  renewed : (kept : List Bundle) → AreBundles text kept → status ≡ 0 → told ≡ told_length 0 → new ≡ with_bundles old kept → Renews text status told old new
  unrenewed : RefusesBundles text status told → new ≡ old → Renews text status told old new

-- what a tick does
pub record Ticks (now status : ℕ) (told : SvidTold) (old new : Kept) : Type 0 where
  pub done : status ≡ 0
  pub length : told ≡ told_length 0
  pub raised : new ≡ with_state old (raised_to old.state now)

-- what withdrawing does: the record is advanced, and gains the withdrawal, which is the answer; or the tokens have expired (7); or memory was refused
-- (2), but never for a withdrawal that the record has already
pub data Withdraws (now : ℕ) (key : List ℕ) (exp : ℕ) (status : ℕ) (told : SvidTold) (old_use new_use : SvidUse) (old new : Kept) : Type 0 where
  withdrawn : (u : Use) → u ≡ withdrawal old.validator_id (raised_to old.state now).moment key exp → (raised_to old.state now).moment < exp
      → status ≡ 0 → told ≡ told_length 0 → new_use ≡ use_seen u → new ≡ with_state old (gains (raised_to old.state now) (Some u)) → Withdraws now key exp status told old_use new_use old new
  expired : exp ≤ (raised_to old.state now).moment → status ≡ 7 → told ≡ told_length 0 → new_use ≡ old_use → new ≡ with_state old (raised_to old.state now) → Withdraws now key exp status told old_use new_use old new
  no_memory : (raised_to old.state now).moment < exp → ¬ IsTrue (holds (raised_to old.state now).uses (withdrawal old.validator_id (raised_to old.state now).moment key exp))
      → status ≡ 2 → told ≡ told_length 0 → new_use ≡ old_use → new ≡ with_state old (raised_to old.state now) → Withdraws now key exp status told old_use new_use old new

-- What taking messages does: the record is advanced, and joined with that of the messages, if that is within the horizon (8). Or the messages are
-- refused, and nothing happens. Or memory was refused, and a part of them may be joined.
pub data Takes (now : ℕ) (messages : List ℕ) (status : ℕ) (told : SvidTold) (old new : Kept) : Type 0 where
  taken : (r : State) → Tells messages (state_of 0 []) r → r.moment ≤ horizon now old.ahead
      → status ≡ 0 → told ≡ told_length 0 → new ≡ with_state old (join (raised_to old.state now) r) → Takes now messages status told old new
  too_far : (r : State) → Tells messages (state_of 0 []) r → horizon now old.ahead < r.moment
      → status ≡ 8 → told ≡ told_length 0 → new ≡ with_state old (raised_to old.state now) → Takes now messages status told old new
  part : (r y : State) → Tells messages (state_of 0 []) r → r.moment ≤ horizon now old.ahead → IsPartlyJoined (raised_to old.state now) y r.moment (rising r.uses)
      → status ≡ 2 → told ≡ told_length 0 → new ≡ with_state old y → Takes now messages status told old new
  untaken : (given : ToolFault) → IsRefused 1 messages given → status ≡ fault_number given → told ≡ told_fault given → new ≡ old → Takes now messages status told old new

-- what writing does: the text that is due to the record is put, or has no room; or memory was refused. Nothing happens to the validator.
pub data Writes (due : State → List ℕ) (status : ℕ) (told : SvidTold) (old_out new_out : List ℕ) (old new : Kept) : Type 0 where
  written : (text : List ℕ) → text ≡ due old.state → IsPut text status old_out new_out → told ≡ told_length (length text) → new ≡ old → Writes due status told old_out new_out old new
  unwritten : status ≡ 2 → told ≡ told_length 0 → new_out ≡ old_out → new ≡ old → Writes due status told old_out new_out old new

-- What answering a summary does: the record is advanced, also to the summary's moment, and the answer is written, or has no room. Or the summary is
-- refused, or is past the horizon (8), or memory was refused.
pub data Replies (now : ℕ) (summary : List ℕ) (status : ℕ) (told : SvidTold) (old_out new_out : List ℕ) (old new : Kept) : Type 0 where
  replied : (asked : SummaryData) (text : List ℕ) → AreMessages summary (Summary asked ∷ []) → asked.moment ≤ horizon now old.ahead
      → text ≡ flat_map batch_text (answer_to (raised_to old.state now) asked) → IsPut text status old_out new_out → told ≡ told_length (length text)
      → new ≡ with_state old (raised_to (raised_to old.state now) asked.moment) → Replies now summary status told old_out new_out old new
  reply_too_far : (asked : SummaryData) → AreMessages summary (Summary asked ∷ []) → horizon now old.ahead < asked.moment
      → status ≡ 8 → told ≡ told_length 0 → new_out ≡ old_out → new ≡ with_state old (raised_to old.state now) → Replies now summary status told old_out new_out old new
  no_memory_for_reply : (asked : SummaryData) → AreMessages summary (Summary asked ∷ []) → asked.moment ≤ horizon now old.ahead
      → status ≡ 2 → told ≡ told_length 0 → new_out ≡ old_out → new ≡ with_state old (raised_to (raised_to old.state now) asked.moment) → Replies now summary status told old_out new_out old new
  no_summary : (given : ToolFault) → IsSummaryRefused summary given → status ≡ fault_number given → told ≡ told_fault given → new_out ≡ old_out → new ≡ old → Replies now summary status told old_out new_out old new
