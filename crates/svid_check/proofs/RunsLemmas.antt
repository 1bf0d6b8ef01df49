-- To tell a validator is to join its record.
use Rattle.std.proofs.Common.{◌≡◌, ◌<◌, ◌≤◌, ◌+◌, ℕ, max, Bool, true, false, ◌&&◌, ◌||◌, nat_lt, List, [], ◌∷◌, ◌++◌, length, take, drop, get_or, Option, None, Some, refl, sym, ap, ◌∙◌, subst, arith}
use Rattle.std.specs.Prelude.{Result, Ok, Err}
use Rattle.std.specs.Ordering.{eq_by_cmp}
use Rattle.std.proofs.lemmas.Bool.{ltb-true, lt-ltb}
use Rattle.std.proofs.lemmas.List.{append_assoc, append-nil, take_all, take_more}
use Rattle.std.proofs.Math.Seq.{drop-append_seam, take-append_seam}
use Rattle.svid_token.specs.Rows.{Answers}
use Rattle.svid_token.specs.declared.refusal.Refusal.{Refusal}
use Rattle.svid_replay.specs.Buckets.{raised_to}
use Rattle.svid_replay.specs.declared.token_use.Use.{Use}
use Rattle.svid_replay.specs.Batches.{BatchData}
use Rattle.svid_replay.specs.Records.{State, batch_state, join, state_of}
use Rattle.svid_replay.specs.Sets.{holds}
use Rattle.svid_replay.specs.Use.{use_cmp}
use Rattle.svid_replay.proofs.RecordsLemmas.{is_join}
use Rattle.svid_replay.proofs.TestsLemmas.{or-false}
use Rattle.svid_replay.proofs.UsesLemmas.{holds-live, holds-union, holds-uses_in, with_holds_one_more}
use Rattle.svid_check.specs.declared.accepted.Accepted.{Accepted}
use Rattle.svid_check.specs.declared.answer.Answer.{Answer}
use Rattle.svid_check.specs.declared.answer.Answer.TheVariants.{Checked, Ticked, Taken, Withdrawn}
use Rattle.svid_check.specs.declared.event.Event.{Event}
use Rattle.svid_check.specs.declared.event.Event.TheVariants.{Check, Tick, Take, Withdraw}
use Rattle.svid_check.specs.declared.take_fault.TakeFault.{TakeFault}
use Rattle.svid_check.specs.declared.take_fault.TakeFault.TheVariants.{TooFarAhead, OutOfMemory}
use Rattle.svid_check.specs.declared.withdraw_fault.WithdrawFault.{WithdrawFault}
use Rattle.svid_check.specs.Calls.{AnswersTellMoments, ChecksAreSteps, RecordTakesAreSteps, RecordsGoOn, RunsGoOn, TakesAreSteps, TicksAreSteps, WithdrawalsAreSteps}
use Rattle.svid_check.specs.Changes.{IsWithdrawal, Takes, accepted_in, gains, horizon, settled, withdrawn_in}
use Rattle.svid_check.specs.Runs.{IsAnswered, Runs, RunsFrom, Step, Terms}
use Rattle.svid_check.specs.Said.{RefusesForm}
use Rattle.svid_check.specs.Told.{TellsBatch, Told, record_of, tell, tell_now, tell_one, tell_use}
use Rattle.svid_check.specs.Verdict.{verdict}
use Rattle.svid_check.proofs.WholeLemmas.{as_batch}

-- what is live at the greater moment is live at the lesser
pruned_first : (late soon new held : Bool) → (late ≡ true → soon ≡ true) → (late && (new || held)) ≡ (late && (new || (soon && held)))
pruned_first true true new held so = refl
pruned_first true false new held so = ap (λ b. new || (b && held)) (sym (so refl))
pruned_first false soon new held so = refl

live_before : (m n e : ℕ) → nat_lt (max m n) e ≡ true → nat_lt m e ≡ true
live_before m n e is = lt-ltb m e (let later = ltb-true (max m n) e is in omega arith)

-- a validator that learns a moment and uses has the record's join with them
joined : (x y : Told) (b : State) → y.greatest ≡ max x.greatest b.moment → ((u : Use) → holds y.uses u ≡ (holds b.uses u || holds x.uses u)) → record_of y ≡ join (record_of x) b
joined x y b greatest uses =
    is_join (record_of x) b (record_of y) greatest (λ u.
    holds-live y.uses y.greatest u
    ∙ ap (λ n. nat_lt n u.exp && holds y.uses u) greatest
    ∙ ap (λ h. nat_lt (max x.greatest b.moment) u.exp && h) (uses u)
    ∙ pruned_first (nat_lt (max x.greatest b.moment) u.exp) (nat_lt x.greatest u.exp) (holds b.uses u) (holds x.uses u) (live_before x.greatest b.moment u.exp)
    ∙ ap (λ h. nat_lt (max x.greatest b.moment) u.exp && (holds b.uses u || h)) (sym (holds-live x.uses x.greatest u)))

pub told_now : (x : Told) (a : State) (now : ℕ) → record_of x ≡ a → record_of (tell_now x now) ≡ raised_to a now
told_now x a now is =
    joined x (tell_now x now) (state_of now []) refl (λ u. ap (λ h. h || holds x.uses u) (sym (holds-uses_in [] u)))
    ∙ ap (λ (r : State). raised_to r now) is

pub told_one : (x : Told) (added : Option Use) → record_of (tell_one x added) ≡ gains (record_of x) added
told_one x (Some v) =
    joined x (tell_one x (Some v)) (state_of x.greatest (v ∷ [])) (omega arith) (λ u.
    with_holds_one_more x.uses v u ∙ ap (λ h. h || holds x.uses u) (sym (holds-uses_in (v ∷ []) u ∙ or-false (eq_by_cmp use_cmp u v))))
told_one x None = refl

pub told_use : (x : Told) (answer : Result Accepted Refusal) → record_of (tell_use x answer) ≡ settled (record_of x) answer
told_use x answer = told_one x (accepted_in answer)

pub told_all : (x : Told) (b : State) → record_of (tell x b) ≡ join (record_of x) b
told_all x b = joined x (tell x b) b refl (λ u. holds-union x.uses b.uses u)

-- a check by a record is one by what was learned
pub checks : (t : Terms) (a b : State) (now : ℕ) (event : Event) (answer : Result Accepted Refusal) (token : List ℕ)
    → Answers Some answer (verdict t.setting (raised_to a now).moment (raised_to a now).uses token)
    → RefusesForm token answer
    → b ≡ settled (raised_to a now) answer
    → ((x : Told) → IsAnswered t.setting (tell_now x now) token answer → Step t x event (Checked answer) (tell_use (tell_now x now) answer))
    → RunsFrom t a (event ∷ []) (Checked answer ∷ []) b
checks t a b now event answer token due form left step x is =
    let y = tell_now x now in
    let told = told_now x a now is in (
      tell_use y answer,
      (tell_use y answer, step x (subst (λ (r : State). Answers Some answer (verdict t.setting r.moment r.uses token)) (sym told) due, form), refl),
      told_use y answer ∙ ap (λ (r : State). settled r answer) told ∙ sym left,
    )

-- a withdrawal
pub withdraws : (t : Terms) (a b : State) (now : ℕ) (event : Event) (key : List ℕ) (exp : ℕ) (answer : Result Use WithdrawFault)
    → IsWithdrawal t.setting.validator_id (raised_to a now).moment key exp answer
    → b ≡ gains (raised_to a now) (withdrawn_in answer)
    → ((x : Told) → IsWithdrawal t.setting.validator_id (tell_now x now).greatest key exp answer → Step t x event (Withdrawn answer) (tell_one (tell_now x now) (withdrawn_in answer)))
    → RunsFrom t a (event ∷ []) (Withdrawn answer ∷ []) b
withdraws t a b now event key exp answer due left step x is =
    let y = tell_now x now in
    let told = told_now x a now is in
    let z = tell_one y (withdrawn_in answer) in (
      z,
      (z, step x (subst (λ (r : State). IsWithdrawal t.setting.validator_id r.moment key exp answer) (sym told) due), refl),
      told_one y (withdrawn_in answer) ∙ ap (λ (r : State). gains r (withdrawn_in answer)) told ∙ sym left,
    )

-- a tick
pub ticks : (t : Terms) (a b : State) (now : ℕ) (event : Event) → b ≡ raised_to a now
    → ((x : Told) → Step t x event Ticked (tell_now x now)) → RunsFrom t a (event ∷ []) (Ticked ∷ []) b
ticks t a b now event left step x is = (tell_now x now, (tell_now x now, step x, refl), told_now x a now is ∙ sym left)

-- a take by a record is one by what was learned
told_batch : (x : Told) (a b : State) (far : ℕ) (batch : BatchData) (answer : Result (Unit {0}) TakeFault) → record_of x ≡ a → Takes a far batch answer b
    → (y : Told) × TellsBatch x far batch answer y × (record_of y ≡ b)
told_batch x a b far batch (Ok taken) is h = (tell x (batch_state batch), (h.0, refl), told_all x (batch_state batch) ∙ ap (λ (r : State). join r (batch_state batch)) is ∙ sym h.1)
told_batch x a b far batch (Err TooFarAhead) is h = (x, (h.0, refl), is ∙ sym h.1)
told_batch x a b far batch (Err OutOfMemory) is h =
    let part = h.1 in
    let y = tell x (state_of batch.moment part.front) in
    let left : record_of y ≡ b = told_all x (state_of batch.moment part.front) ∙ ap (λ (r : State). join r (state_of batch.moment part.front)) is ∙ sym part.joined in (
      y,
      (
        h.0,
        record {
          front = part.front;
          refused = part.refused;
          rest = part.rest;
          parts = part.parts;
          told = refl;
          live = subst (λ (r : State). r.moment < part.refused.exp) (sym left) part.live;
          absent = ap (λ (r : State). holds r.uses part.refused) left ∙ part.absent;
        },
      ),
      left,
    )

pub takes : (t : Terms) (a b : State) (now : ℕ) (event : Event) (batch : BatchData) (answer : Result (Unit {0}) TakeFault)
    → Takes (raised_to a now) (horizon now t.ahead) batch answer b
    → ((x y : Told) → TellsBatch (tell_now x now) (horizon now t.ahead) batch answer y → Step t x event (Taken answer) y)
    → RunsFrom t a (event ∷ []) (Taken answer ∷ []) b
takes t a b now event batch answer h step x is =
    let told = told_batch (tell_now x now) (raised_to a now) b (horizon now t.ahead) batch answer (told_now x a now is) h in
    (told.0, (told.0, step x told.0 told.1, refl), told.2)

-- one run after another
runs_on : (t : Terms) (events more : List Event) (answers others : List Answer) (x y z : Told) → Runs t x events answers y → Runs t y more others z → Runs t x (events ++ more) (answers ++ others) z
runs_on t [] more [] others x y z h k = subst (λ (w : Told). Runs t w more others z) h k
runs_on t (e ∷ events) more (a ∷ answers) others x y z h k = (h.0, h.1, runs_on t events more answers others h.0 y z h.2 k)
runs_on t [] more (a ∷ answers) others x y z h k = absurd h
runs_on t (e ∷ events) more [] others x y z h k = absurd h

pub runs_go_on : RunsGoOn
runs_go_on t x y z events more answers others h k = runs_on t events more answers others x y z h k

pub records_go_on : RecordsGoOn
records_go_on t a b c events more answers others h k x is =
    let first = h x is in
    let last = k first.0 first.2 in
    (last.0, runs_on t events more answers others x first.0 last.0 first.1 last.1, last.2)

pub checks_are_steps : ChecksAreSteps
checks_are_steps t a now token answer due form = checks t a (settled (raised_to a now) answer) now (Check now token) answer token.now due form refl (λ x answered. (answered, refl))

pub ticks_are_steps : TicksAreSteps
ticks_are_steps t a now = ticks t a (raised_to a now) now (Tick now) refl (λ x. refl)

pub takes_are_steps : TakesAreSteps
takes_are_steps t a b now batch answer h = takes t a b now (Take now batch) batch.now answer h (λ x y told. told)

pub record_takes_are_steps : RecordTakesAreSteps
record_takes_are_steps t a b r now batch answer h is =
    let x = raised_to a now in
    let far = horizon now t.ahead in
    takes_are_steps t a b now batch answer (subst (λ (d : BatchData). Takes x far d answer b) (sym is) (as_batch x far r answer b h))

pub withdrawals_are_steps : WithdrawalsAreSteps
withdrawals_are_steps t a now key exp answer h = withdraws t a (gains (raised_to a now) (withdrawn_in answer)) now (Withdraw now key exp) key exp answer h refl (λ x due. (due, refl))

pub answers_tell_moments : AnswersTellMoments
answers_tell_moments x b now far s (Ok batches) h = told_now (tell_now x now) (raised_to (record_of x) now) s.moment (told_now x (record_of x) now refl) ∙ sym h.2
answers_tell_moments x b now far s (Err TooFarAhead) h = told_now x (record_of x) now refl ∙ sym h.1
answers_tell_moments x b now far s (Err OutOfMemory) h = told_now (tell_now x now) (raised_to (record_of x) now) s.moment (told_now x (record_of x) now refl) ∙ sym h.1

-- the answers behind the old ones are those of a run
pub record HasRun (t : Terms) (a b : State) (events : List Event) (old new : List Answer) : Type 0 where
  pub answers : List Answer
  pub added : new ≡ old ++ answers
  pub run : RunsFrom t a events answers b

pub has_run_none : (t : Terms) (a : State) (old new : List Answer) → new ≡ old → HasRun t a a [] old new
has_run_none t a old new is = record { answers = []; added = is ∙ sym (append-nil old); run = λ x told. (x, refl, told) }

-- one event more
pub has_run_more : (t s : Terms) (a b c : State) (events : List Event) (i : ℕ) (event : Event) (answer : Answer) (old new newer : List Answer)
    → s ≡ t → i < length events → event ≡ get_or events i event
    → HasRun t a b (take i events) old new → newer ≡ new ++ answer ∷ [] → RunsFrom s b (event ∷ []) (answer ∷ []) c
    → HasRun t a c (take (i + 1) events) old newer
has_run_more t s a b c events i event answer old new newer same within is h items step =
    let next : RunsFrom t b (event ∷ []) (answer ∷ []) c = subst (λ (u : Terms). RunsFrom u b (event ∷ []) (answer ∷ []) c) same step in
    subst (λ (l : List Event). HasRun t a c l old newer) (ap (λ (e : Event). take i events ++ e ∷ []) is ∙ sym (take_more events i event within))
    (record {
      answers = h.answers ++ answer ∷ [];
      added = items ∙ ap (λ l. l ++ answer ∷ []) h.added ∙ append_assoc old h.answers (answer ∷ []);
      run = records_go_on t a b c (take i events) (event ∷ []) h.answers (answer ∷ []) h.run next;
    })

pub has_run_all : (t : Terms) (a b : State) (events : List Event) (i : ℕ) (old new : List Answer) → length events ≤ i → HasRun t a b (take i events) old new
    → RunsFrom t a events (drop (length old) new) b × (take (length old) new ≡ old)
has_run_all t a b events i old new past h = (
  subst (λ (es : List Event). RunsFrom t a es (drop (length old) new) b) (take_all i events past)
      (subst (λ (l : List Answer). RunsFrom t a (take i events) l b) (sym (ap (λ l. drop (length old) l) h.added ∙ drop-append_seam old h.answers)) h.run),
  ap (λ l. take (length old) l) h.added ∙ take-append_seam old h.answers,
)
