-- What is promised of the requests of a member, over every history of calls.
use Rattle.std.specs.Prelude.{◌≡◌, ◌⊎◌, ℕ, ◌+◌, ◌<◌, ◌≤◌, Bool, true, false, ◌==◌, nat_lt, List, [], ◌∷◌, length, Option, Some, None, is_some}
use Rattle.std.specs.List.{AllByRecursion, slice_get}
use Rattle.std.specs.Ordering.{is_eq}
use Rattle.svid_replay.specs.declared.token_use.Use.{Use}
use Rattle.svid_requests.specs.declared.needs.Needs.{Needs}
use Rattle.svid_requests.specs.declared.needs.Needs.TheVariants.{Nothing, Write, Claim}
use Rattle.svid_requests.specs.declared.judgment.Judgment.{Judgment}
use Rattle.svid_requests.specs.declared.judgment.Judgment.TheVariants.{Passes, Holds, Fails}
use Rattle.svid_requests.specs.declared.verdict.Verdict.{Verdict}
use Rattle.svid_requests.specs.declared.verdict.Verdict.TheVariants.{Accept, Refuse}
use Rattle.svid_requests.specs.declared.request.Request.{Request}
use Rattle.svid_requests.specs.declared.event.Event.{Event}
use Rattle.svid_requests.specs.declared.event.Event.TheVariants.{Judged, Wrote, Found, Overdue}
use Rattle.svid_requests.specs.declared.stage.Stage.{Stage}
use Rattle.svid_requests.specs.declared.stage.Stage.TheVariants.{Writing, Claiming, Behind, Again}
use Rattle.svid_requests.specs.declared.deed.Deed.{Deed}
use Rattle.svid_requests.specs.declared.deed.Deed.TheVariants.{Judge, Append, Answer}
use Rattle.svid_requests.specs.declared.deed.Deed.TheVariants.{Nothing as NothingToDo, Claim as PutClaim}
use Rattle.svid_requests.specs.declared.waiter.Waiter.{Waiter}
use Rattle.svid_requests.specs.Lines.{key_cmp}
use Rattle.svid_requests.specs.Tables.{at_moment, came, come_deed, deed_at, find, first, heard, heard_deed, holder, is_judging}
use Rattle.svid_requests.specs.History.{Answered, Call, World, answered, fresh, happens, history}
use Rattle.svid_requests.specs.History.Call.{Come, Hear}

-- What a call leaves and answers by its contract is what a history takes it to: a deed that answers is an answer.
abbrev pub CallsAreHistory : Type 0
CallsAreHistory = (w : World) (up : ℕ) (e : Event) (refused : Bool)
    → let s = at_moment w.state up in
    ((happens w (Come up false)).state ≡ came s) × ((happens w (Come up true)).state ≡ s)
    × ((happens w (Hear up e refused)).state ≡ heard refused s e) × ((happens w (Hear up e refused)).answers ≡ answered s.now (heard_deed refused s e) w.answers)

-- Answers.

abbrev pub one_if : Bool → ℕ
one_if true = 1
one_if false = 0

-- how many of a list pass a test
abbrev pub count : {X : Type 0} → (X → Bool) → List X → ℕ
count p [] = 0
count p (x ∷ xs) = one_if (p x) + count p xs

-- how many answers the request of a number got
abbrev pub answers_to : ℕ → World → ℕ
answers_to n w = count (λ a. a.number == n) w.answers

-- the request of a number, if it has no answer yet
abbrev pub open_at : ℕ → World → Option Request
open_at n w = find n w.state.table.requests

-- Each request that came is open or answered, and answered once.
abbrev pub EachOnce : Type 0
EachOnce = (needs : Needs) (wait : ℕ) (calls : List Call) (n : ℕ)
    → let w = history (fresh needs wait) calls in
    answers_to n w + one_if (is_some (open_at n w)) ≡ one_if (nat_lt n (length w.deadlines))

-- The open request that came first is due first.
abbrev pub FirstIsDueFirst : Type 0
FirstIsDueFirst = (needs : Needs) (wait : ℕ) (calls : List Call) (p : ℕ × Request) (n : ℕ) (r : Request)
    → let w = history (fresh needs wait) calls in
    first w.state.table.requests ≡ Some p → open_at n w ≡ Some r → p.1.deadline ≤ r.deadline

-- Once an event `Overdue` finds nothing to do at a moment, each that came and whose deadline is over has its one answer.
abbrev pub OverdueAreAnswered : Type 0
OverdueAreAnswered = (needs : Needs) (wait : ℕ) (calls : List Call) (up : ℕ) (refused : Bool) (n deadline : ℕ)
    → let w = history (fresh needs wait) calls in
    let s = at_moment w.state up in
    heard_deed refused s Overdue ≡ NothingToDo → slice_get w.deadlines n ≡ Some deadline → deadline ≤ s.now → answers_to n w ≡ 1

-- the answer came before the deadline, if it accepts the token
abbrev pub IsInTime : List ℕ → Answered → Verdict → Type 0
IsInTime deadlines a (Accept u) = (deadline : ℕ) × (slice_get deadlines a.number ≡ Some deadline) × (a.at < deadline)
IsInTime deadlines a _ = Unit {0}

-- No token is accepted at or after the deadline of its request.
abbrev pub AcceptedInTime : Type 0
AcceptedInTime = (needs : Needs) (wait : ℕ) (calls : List Call)
    → let w = history (fresh needs wait) calls in
    AllByRecursion (λ a. IsInTime w.deadlines a a.verdict) w.answers

-- What answers rest on.

-- an event was reported
abbrev pub Told : Event → List Call → Type 0
Told e [] = ⊥
Told e (Come up refused ∷ calls) = Told e calls
Told e (Hear up f refused ∷ calls) = (f ≡ e) ⊎ Told e calls

-- what an acceptance rests on where a validator has not said that the token is known to be this caller's
abbrev pub RestsOn : Needs → List Call → ℕ → Use → Type 0
RestsOn Nothing calls n u = Told (Judged n (Passes u)) calls
RestsOn Write calls n u = Told (Judged n (Passes u)) calls × Told (Wrote n true) calls
RestsOn Claim calls n u = ((v : Use) × Told (Judged n (Passes v)) calls) × (Told (Found n (Passes u)) calls ⊎ Told (Found n (Holds u)) calls)

abbrev pub IsFounded : Needs → List Call → ℕ → Verdict → Type 0
IsFounded needs calls n (Accept u) = Told (Judged n (Holds u)) calls ⊎ RestsOn needs calls n u
IsFounded needs calls n (Refuse why) = Told (Judged n (Fails why)) calls ⊎ Told (Found n (Fails why)) calls
IsFounded needs calls n _ = Unit {0}

-- Each acceptance and each refusal rests on an event of that request, reported before or by the same call.
abbrev pub AnswersAreFounded : Type 0
AnswersAreFounded = (needs : Needs) (wait : ℕ) (calls : List Call)
    → AllByRecursion (λ a. IsFounded needs calls a.number a.verdict) (history (fresh needs wait) calls).answers

-- How many are accepted.

-- an answer accepts a token, with a use that passes a test
abbrev pub accepts : (Use → Bool) → Verdict → Bool
accepts p (Accept u) = p u
accepts p _ = false

-- how many answers accept a token with such a use
abbrev pub accepted : (Use → Bool) → World → ℕ
accepted p w = count (λ a. accepts p a.verdict) w.answers

abbrev pub passes_by : (Use → Bool) → Judgment → Bool
passes_by p (Passes u) = p u
passes_by p (Holds u) = p u
passes_by p (Fails why) = false

abbrev pub holds_by : (Use → Bool) → Judgment → Bool
holds_by p (Holds u) = p u
holds_by p _ = false

-- a validator has accepted a token, with such a use
abbrev pub is_judged : (Use → Bool) → Event → Bool
is_judged p (Judged n j) = passes_by p j
is_judged p _ = false

-- a validator has accepted what the store answered, with such a use, or it knows the token to be this caller's
abbrev pub is_found : (Use → Bool) → Event → Bool
is_found p (Found n j) = passes_by p j
is_found p (Judged n j) = holds_by p j
is_found p _ = false

abbrev pub in_call : (Event → Bool) → Call → Bool
in_call p (Come up refused) = false
in_call p (Hear up e refused) = p e

-- how many calls told such an event
abbrev pub told : (Event → Bool) → List Call → ℕ
told p calls = count (in_call p) calls

-- Where an acceptance needs no claim, no more tokens with such uses are accepted than a validator accepted.
abbrev pub AcceptedAsJudged : Type 0
AcceptedAsJudged = (wait : ℕ) (calls : List Call) (p : Use → Bool)
    → (accepted p (history (fresh Nothing wait) calls) ≤ told (is_judged p) calls) × (accepted p (history (fresh Write wait) calls) ≤ told (is_judged p) calls)

-- Where it needs a claim, no more are accepted than a validator accepted by the answer of the store, or knew to be their callers'.
abbrev pub AcceptedAsFound : Type 0
AcceptedAsFound = (wait : ℕ) (calls : List Call) (p : Use → Bool) → accepted p (history (fresh Claim wait) calls) ≤ told (is_found p) calls

-- Claims.

-- a request at this stage has the claim of a key: it is on its way, or about to be
abbrev pub has_claim : List ℕ → Stage → Bool
has_claim key (Claiming u) = is_eq (key_cmp key u.key)
has_claim key (Again u) = is_eq (key_cmp key u.key)
has_claim key _ = false

-- it stands in the line behind that claim
abbrev pub stands_behind : List ℕ → Stage → Bool
stands_behind key (Behind u) = is_eq (key_cmp key u.key)
stands_behind key _ = false

-- the stage of a request passes a test, if there is one
abbrev pub stage_is : (Stage → Bool) → Option Request → Bool
stage_is test None = false
stage_is test (Some r) = test r.stage

-- At most one open request has the claim of a key: the one that the table names.
abbrev pub OneHasAClaim : Type 0
OneHasAClaim = (needs : Needs) (wait : ℕ) (calls : List Call) (key : List ℕ) (n : ℕ)
    → let w = history (fresh needs wait) calls in
    stage_is (has_claim key) (open_at n w) ≡ true → holder key w.state.table.holders ≡ Some n

-- A request stands in line only while another one has the claim that it waits for.
abbrev pub NoneWaitsInVain : Type 0
NoneWaitsInVain = (needs : Needs) (wait : ℕ) (calls : List Call) (key : List ℕ) (n : ℕ)
    → let w = history (fresh needs wait) calls in
    stage_is (stands_behind key) (open_at n w) ≡ true → (m : ℕ) × (stage_is (has_claim key) (open_at m w) ≡ true)

-- Each holder of a claim and each one in line that the table keeps is an open request, which is so far. So the table does not grow.
abbrev pub NothingIsLeftOver : Type 0
NothingIsLeftOver = (needs : Needs) (wait : ℕ) (calls : List Call)
    → let w = history (fresh needs wait) calls in
    AllByRecursion (λ (e : List ℕ × ℕ). stage_is (has_claim e.0) (open_at e.1 w) ≡ true) w.state.table.holders
    × AllByRecursion (λ (v : Waiter). stage_is (stands_behind v.key) (open_at v.number w) ≡ true) w.state.table.lines

abbrev pub is_again : Stage → Bool
is_again (Again u) = true
is_again _ = false

-- The next request that an answer names is open, and its turn has come: it is to be judged again.
abbrev pub NextIsJudgedAgain : Type 0
NextIsJudgedAgain = (needs : Needs) (wait : ℕ) (calls : List Call) (up : ℕ) (e : Event) (refused : Bool) (n : ℕ) (v : Verdict) (next : ℕ)
    → let w = history (fresh needs wait) calls in
    let s = at_moment w.state up in
    heard_deed refused s e ≡ Answer n v (Some next) → stage_is is_again (open_at next (history (fresh needs wait) (Hear up e refused ∷ calls))) ≡ true

-- It came first of those that stood in its line.
abbrev pub FirstInLineIsNext : Type 0
FirstInLineIsNext = (needs : Needs) (wait : ℕ) (calls : List Call) (up : ℕ) (e : Event) (refused : Bool) (n : ℕ) (v : Verdict) (next : ℕ) (key : List ℕ) (m : ℕ)
    → let w = history (fresh needs wait) calls in
    heard_deed refused (at_moment w.state up) e ≡ Answer n v (Some next) → stage_is (stands_behind key) (open_at next w) ≡ true → stage_is (stands_behind key) (open_at m w) ≡ true → next ≤ m

-- Deeds.

-- a deed brings the turn of the request of a number
abbrev pub brings : ℕ → Deed → Bool
brings n (Answer k v None) = false
brings n (Answer k v (Some next)) = next == n
brings n _ = false

-- If a request arrives or moves on, the deed of that call is about it: it says what to do for it, or that its turn has come.
abbrev pub StagesAreTold : Type 0
StagesAreTold = (needs : Needs) (wait : ℕ) (calls : List Call) (up : ℕ) (e : Event) (refused : Bool) (n : ℕ) (r : Request)
    → let w = history (fresh needs wait) calls in
    let s = at_moment w.state up in
    (open_at n (happens w (Come up refused)) ≡ Some r → (open_at n w ≡ Some r) ⊎ (come_deed s ≡ deed_at n r.stage))
    × (open_at n (happens w (Hear up e refused)) ≡ Some r → (open_at n w ≡ Some r) ⊎ ((heard_deed refused s e ≡ deed_at n r.stage) ⊎ (brings n (heard_deed refused s e) ≡ true)))

-- a deed asks for what that request waits for, and a request that it answers is closed
abbrev pub FitsDeed : World → Deed → Type 0
FitsDeed w (Judge n) = stage_is is_judging (open_at n w) ≡ true
FitsDeed w (Append n u) = (deadline : ℕ) × (open_at n w ≡ Some (record { deadline = deadline; stage = Writing u }))
FitsDeed w (PutClaim n u) = (deadline : ℕ) × (open_at n w ≡ Some (record { deadline = deadline; stage = Claiming u }))
FitsDeed w (Answer n v next) = open_at n w ≡ None
FitsDeed w _ = Unit {0}

-- Each deed fits what its call leaves.
abbrev pub DeedsFit : Type 0
DeedsFit = (needs : Needs) (wait : ℕ) (calls : List Call) (up : ℕ) (e : Event) (refused : Bool)
    → let w = history (fresh needs wait) calls in
    let s = at_moment w.state up in
    FitsDeed (happens w (Come up false)) (come_deed s) × FitsDeed (happens w (Hear up e refused)) (heard_deed refused s e)
