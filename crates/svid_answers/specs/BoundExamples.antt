-- Calls by which members that are bound to callers answer 200.
use Rattle.std.specs.Prelude.{◌≡◌, ◌≢◌, ℕ, ◌<◌, ◌^◌, false, List, [], ◌∷◌, Some, Ok}
use Rattle.svid_replay.specs.declared.token_use.Use.{Use}
use Rattle.svid_replay.specs.Buckets.{raised_to}
use Rattle.svid_replay.specs.Records as records
use Rattle.svid_claims.specs.Groups.{Put, Terms}
use Rattle.svid_claims.specs.Histories.{own}
use Rattle.svid_claims.specs.Once.{HasMargin}
use Rattle.svid_claims.specs.Owners.{owner_of_caller, withdrawn}
use Rattle.svid_check.specs.Said.{Said}
use Rattle.svid_check.specs.Setting.{Held, Setting}
use Rattle.svid_check.specs.Verdict.{verdict_on}
use Rattle.svid_check.specs.declared.accepted.Accepted.{Accepted}
use Rattle.svid_requests.specs.declared.verdict.Verdict.TheVariants.{Accept}
use Rattle.svid_member.specs.declared.readiness.Readiness.{Readiness}
use Rattle.svid_answers.specs.Runs.{Call, Now, Run}
use Rattle.svid_answers.specs.Runs.Call.{InStore, Find, Judge, Come, Begin}

-- a group that is bound to callers, with one store, where tokens last so long
abbrev pub bound_terms : ℕ → Terms
bound_terms lasts = record { strict = false; margin = 0; back = 0; lasts = lasts; ahead = λ v. 0; shard = λ key. 0; owner = own }

-- Member v begins, a request comes to it, and its token is judged: the last one first.
abbrev pub asks : {V : Type 0} → (v now : ℕ) → Readiness → records.State → List (Call V) → List (Call V)
asks v now knows read calls = Judge v now 0 0 ∷ Come v 0 false ∷ Begin v 7 [] knows read ∷ calls

-- One caller asks two members. The claim of one is put, and both find it.
abbrev pub bound_calls : {V : Type 0} → ℕ → Readiness → Held V → Setting → Said → Use → (caller : List ℕ) → List (Call V)
bound_calls now knows h s said u caller =
    Find 1 now 0 0 0 u caller s said h h ∷ Find 0 now 0 0 0 u caller s said h h ∷ InStore (Put u.key (owner_of_caller caller u.exp) u.exp 0) ∷ asks 1 now knows h.state (asks 0 now knows h.state [])

-- So both answer 200 to that caller, for any token that their validator accepts. Its record is at this time already.
abbrev pub BoundRunAnswers : (V : Type 0) → Type 0
BoundRunAnswers V = (now : ℕ) (knows : Readiness) (h : Held V) (s : Setting) (said : Said) (accepted : Accepted) (caller : List ℕ)
    → let u = accepted.used in
    raised_to h.state now ≡ h.state → verdict_on s h.state.moment h.state.uses said ≡ Ok (Some accepted) → u.exp < 2 ^ 64 → owner_of_caller caller u.exp ≢ withdrawn
    → (b : Now) × HasMargin (bound_terms u.exp) × Run V (bound_terms u.exp) (λ owner. u.exp) (bound_calls now knows h s said u caller) b
    × (b.given ≡ record { verdict = Accept u; caller = Some caller } ∷ record { verdict = Accept u; caller = Some caller } ∷ [])
