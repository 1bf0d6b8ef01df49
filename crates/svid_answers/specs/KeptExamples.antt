-- Calls by which a member with a state folder answers 200.
use Rattle.std.specs.Prelude.{◌≡◌, ℕ, Bool, true, false, List, [], ◌∷◌, Some, Ok}
use Rattle.svid_replay.specs.declared.token_use.Use.{Use}
use Rattle.svid_replay.specs.Buckets.{raised_to}
use Rattle.svid_replay.specs.Records as records
use Rattle.svid_check.specs.Said.{Said}
use Rattle.svid_check.specs.Setting.{Setting}
use Rattle.svid_check.specs.Verdict.{verdict_on}
use Rattle.svid_check.specs.declared.accepted.Accepted.{Accepted}
use Rattle.svid_journal.specs.History.{Titles}
use Rattle.svid_journal.specs.History.Event.{Answer, Put, Sync}
use Rattle.svid_requests.specs.declared.event.Event.TheVariants.{Wrote}
use Rattle.svid_requests.specs.declared.verdict.Verdict.TheVariants.{Accept}
use Rattle.svid_member.specs.declared.readiness.Readiness.{Readiness}
use Rattle.svid_answers.specs.RunsAlone.Call.{Come, Hear, Judge}
use Rattle.svid_answers.specs.RunsKept.{Call, Now, Run}
use Rattle.svid_answers.specs.RunsKept.Call.{Folder, Member, Restart}

-- A first start makes a journal. A token is accepted, its use is written and synced, and the member hears that: the last one first.
abbrev pub kept_calls : ℕ → Readiness → records.State → Setting → Said → List Call
kept_calls now knows read s said =
    Member (Hear 0 (Wrote 0 true)) ∷ Folder (Sync true) ∷ Folder (Put (7 ∷ []) true []) ∷ Member (Judge now 0 0 s said) ∷ Member (Come 0 false) ∷ Folder (Answer true) ∷ Folder (Answer true)
    ∷ Restart 1 0 [] read 7 0 0 [] knows ∷ []

-- So it answers 200, for any token that its validator accepts, if the payload tells the use.
abbrev pub KeptRunAnswers : Type 0
KeptRunAnswers = (tells : Use → List ℕ → Bool) (t : Titles) (now : ℕ) (knows : Readiness) (read : records.State) (s : Setting) (said : Said) (accepted : Accepted)
    → let x = raised_to read now in
    verdict_on s x.moment x.uses said ≡ Ok (Some accepted) → tells accepted.used (7 ∷ []) ≡ true
    → (b : Now) × Run tells t (kept_calls now knows read s said) b × (b.alone.given ≡ Accept accepted.used ∷ [])
