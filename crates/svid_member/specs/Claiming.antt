-- What becomes of a request whose claim was answered.
use Rattle.std.specs.Prelude.{◌≡◌, ℕ, max, Bool, ◌==◌, ◌&&◌, List, Option, Some, None, Result, if◌then◌else◌}
use Rattle.std.specs.Ordering.{is_eq, nat_cmp}
use Rattle.std.specs.Cmp.Lexicographic.{slice_cmp}
use Rattle.svid_token.specs.Rows.{Answers}
use Rattle.svid_token.specs.declared.refusal.Refusal.{Refusal}
use Rattle.svid_claims.specs.Outcomes.{outcome_of}
use Rattle.svid_claims.specs.Owners.{owner_of_caller, owner_of_life}
use Rattle.svid_claims.specs.Times.{moment_by}
use Rattle.svid_claims.specs.declared.claim.Claim.{Claim}
use Rattle.svid_claims.specs.declared.claim.Found.{Found as FoundEntry}
use Rattle.svid_claims.specs.declared.outcome.Outcome.{Outcome}
use Rattle.svid_claims.specs.declared.outcome.Outcome.TheVariants.{Withdrawn, Taken, Far, Deaf, Expired, Mine}
use Rattle.svid_replay.specs.declared.token_use.Use.{Use}
use Rattle.svid_replay.specs.Buckets.{raised_to}
use Rattle.svid_check.specs.Changes.{IsWithdrawal, gains, withdrawn_in}
use Rattle.svid_check.specs.Said.{Said}
use Rattle.svid_check.specs.Setting.{Held, Setting, with_state}
use Rattle.svid_check.specs.Verdict.{key_of, verdict_on}
use Rattle.svid_check.specs.declared.accepted.Accepted.{Accepted}
use Rattle.svid_check.specs.declared.withdraw_fault.WithdrawFault.{WithdrawFault}
use Rattle.svid_requests.specs.Tables.{at_moment, claimed}
use Rattle.svid_requests.specs.declared.judgment.Judgment.TheVariants.{Fails}
use Rattle.svid_requests.specs.declared.event.Event.TheVariants.{Found}
use Rattle.svid_member.specs.declared.claimed.Claimed.{Claimed}
use Rattle.svid_member.specs.Judging.{judged_by, judgment_of}
use Rattle.svid_member.specs.Members.{Hears, MemberData}
use Rattle.svid_member.specs.Modes.{adds_at_claim, is_bound}

-- a use is that of a token that says this
abbrev pub is_of : Said → Use → Bool
is_of t u = t.exp == u.exp && is_eq (slice_cmp nat_cmp (key_of t) u.key)

-- the use whose claim a request waits for, if it is of this token
abbrev pub of_token : Said → Option Use → Option Use
of_token t None = None
of_token t (Some u) = if is_of t u then Some u else None

abbrev pub awaited : MemberData → (up n : ℕ) → Said → Option Use
awaited m up n t = of_token t (claimed (at_moment m.requests up) n)

-- whose claim of a token is put: the caller's where tokens are bound to callers, else that of a life
abbrev pub owner_by : Bool → (life : List ℕ) → Use → (caller : List ℕ) → List ℕ
owner_by bound life u caller = if bound then owner_of_caller caller u.exp else owner_of_life u.validator_id life u.exp

abbrev pub owner_for : MemberData → Use → (caller : List ℕ) → List ℕ
owner_for m u caller = owner_by (is_bound m.mode) m.life u caller

abbrev pub claim_for : MemberData → Use → (caller : List ℕ) → Claim
claim_for m u caller = record { owner = record { bytes = owner_for m u caller }; exp = u.exp }

-- the moment at which a member looks at an answer, by that of its clock and record
abbrev pub look_at : MemberData → ℕ → FoundEntry → ℕ
look_at m moment f = moment_by moment f.time m.ahead

-- the number of the reason for which a token is refused whose claim has this outcome
abbrev pub reason_for : Outcome → ℕ
reason_for Mine = 0
reason_for Far = 58
reason_for Deaf = 59
reason_for Expired = 118
reason_for Withdrawn = 124
reason_for Taken = 125

-- The claim counts: the validator judges the token, and the record gains its use where a token is accepted once. The requests hear of it.
abbrev pub FindsMine : {V : Type 0} → Setting → (now up n : ℕ) → Said → Held V → Held V → MemberData → MemberData → Claimed → Type 0
FindsMine s now up n said v w m after c =
    let x = raised_to v.state now in
    (answer : Result Accepted Refusal) × Answers Some answer (verdict_on s x.moment x.uses said)
    × (w ≡ with_state v (judged_by (adds_at_claim m.mode) x answer)) × Hears up (Found n (judgment_of answer)) m c.deed after × (c.outcome ≡ Some Mine) × (c.answer ≡ Some answer)

-- The store has a withdrawal: the record gains one too, unless memory is refused or the token has expired.
abbrev pub FindsWithdrawn : {V : Type 0} → ℕ → Use → Held V → Held V → Type 0
FindsWithdrawn now u v w =
    let x = raised_to v.state now in
    (r : Result Use WithdrawFault) × IsWithdrawal v.validator_id x.moment u.key u.exp r × (w ≡ with_state v (gains x (withdrawn_in r)))

-- the claim does not count, and the request hears of it
abbrev pub IsRefused : (up n : ℕ) → Outcome → MemberData → MemberData → Claimed → Type 0
IsRefused up n outcome m after c = Hears up (Found n (Fails (reason_for outcome))) m c.deed after × (c.outcome ≡ Some outcome) × (c.answer ≡ None)

abbrev pub FindsBy : {V : Type 0} → Outcome → Setting → (now up n : ℕ) → Use → Said → Held V → Held V → MemberData → MemberData → Claimed → Type 0
FindsBy Mine s now up n u said v w m after c = FindsMine s now up n said v w m after c
FindsBy Withdrawn s now up n u said v w m after c = FindsWithdrawn now u v w × IsRefused up n Withdrawn m after c
FindsBy Taken s now up n u said v w m after c = (w ≡ v) × IsRefused up n Taken m after c
FindsBy Far s now up n u said v w m after c = (w ≡ v) × IsRefused up n Far m after c
FindsBy Deaf s now up n u said v w m after c = (w ≡ v) × IsRefused up n Deaf m after c
FindsBy Expired s now up n u said v w m after c = (w ≡ v) × IsRefused up n Expired m after c

-- what the answer of a store leaves, by the outcome of the claim of this use
abbrev pub Finds : {V : Type 0} → Setting → (now up n : ℕ) → Use → (caller : List ℕ) → FoundEntry → Said → Held V → Held V → MemberData → MemberData → Claimed → Type 0
Finds s now up n u caller f said v w m after c =
    FindsBy (outcome_of (claim_for m u caller) f m.lasts (look_at m (max v.state.moment now) f)) s now up n u said v w m after c
