-- A validator that reads a group's log: claims that stand beside its record refuse tokens too.
use Rattle.std.specs.Prelude.{◌≡◌, ◌⊎◌, ℕ, Bool, if◌then◌else◌, List, Option, Some, None, Result, Ok, Err}
use Rattle.svid_token.specs.declared.refusal.Refusal.{Refusal}
use Rattle.svid_token.specs.declared.refusal.Refusal.TheVariants.{Replayed}
use Rattle.svid_replay.specs.Uses.{has_use_of, live}
use Rattle.svid_log.specs.Members.{MemberState}
use Rattle.svid_check.specs.declared.accepted.Accepted.{Accepted}

-- a use beside the record has this key, and is live at a moment
abbrev pub is_claimed : MemberState → ℕ → List ℕ → Bool
is_claimed m moment key = has_use_of (live m.beside moment) key

-- a verdict, where a token that is claimed is refused as one that was used
abbrev pub unless_claimed : (List ℕ → Bool) → Result (Option Accepted) Refusal → Result (Option Accepted) Refusal
unless_claimed claimed (Ok (Some a)) = if claimed a.used.key then Err Replayed else Ok (Some a)
unless_claimed claimed (Ok None) = Ok None
unless_claimed claimed (Err why) = Err why

-- what refuses an accepted token later, where a token that is claimed is refused as one that was used
abbrev pub or_claimed : Bool → Option Refusal → Option Refusal
or_claimed claimed (Some why) = Some why
or_claimed claimed None = if claimed then Some Replayed else None

-- a member without the uses beside its record that have expired by a moment
abbrev pub looked_at : MemberState → ℕ → MemberState
looked_at m moment = record { beside = live m.beside moment; validator_id = m.validator_id; lasts = m.lasts; passed = m.passed; begun = m.begun; ready = m.ready; deaf = m.deaf }

-- a member after a look at the uses beside its record: those that have expired may be gone
abbrev pub IsLooked : ℕ → MemberState → MemberState → Type 0
IsLooked moment old new = (new ≡ old) ⊎ (new ≡ looked_at old moment)
