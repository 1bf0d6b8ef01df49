-- Where a run begins, and how far it can get.
use Rattle.std.proofs.Common.{◌≡◌, ◌<◌, ◌≤◌, ◌^◌, ℕ, max, Bool, true, false, ◌&&◌, nat_lt, [], ◌∷◌, refl, sym, ap, ◌∙◌, subst, arith}
use Rattle.std.specs.Prelude.{Option, None, Some, Result, Ok, Err}
use Rattle.std.proofs.lemmas.Bool.{lt-ltb}
use Rattle.svid_replay.specs.Buckets.{raised_to}
use Rattle.svid_replay.specs.declared.token_use.Use.{Use}
use Rattle.svid_replay.specs.Batches.{BatchData}
use Rattle.svid_replay.specs.Records.{State, batch_state, join, state_of}
use Rattle.svid_replay.specs.Sets.{holds}
use Rattle.svid_replay.specs.Uses.{Uses, live}
use Rattle.svid_replay.proofs.RecordsLemmas.{moment-join}
use Rattle.svid_replay.proofs.UsesLemmas.{holds-live, same_uses}
use Rattle.svid_check.specs.declared.answer.Answer.{Answer}
use Rattle.svid_check.specs.declared.answer.Answer.TheVariants.{Checked, Ticked, Taken, Withdrawn}
use Rattle.svid_check.specs.declared.event.Event.{Event}
use Rattle.svid_check.specs.declared.event.Event.TheVariants.{Check, Tick, Take, Withdraw}
use Rattle.svid_check.specs.declared.take_fault.TakeFault.{TakeFault}
use Rattle.svid_check.specs.declared.take_fault.TakeFault.TheVariants.{TooFarAhead, OutOfMemory}
use Rattle.svid_check.specs.Bounds.{AnswersAreBounded, ChecksAreBounded, RecordTakesAreBounded, RecordsAreBounded, RunsAreBounded, TakesAreBounded, TicksAreBounded, WithdrawalsAreBounded, latest, now_of, reach}
use Rattle.svid_check.specs.Changes.{accepted_in, batch_of, gains, horizon, withdrawn_in}
use Rattle.svid_check.specs.Runs.{Step, Terms}
use Rattle.svid_check.specs.Told.{BeginsAsGiven, TellsBatch, Told, begun, tell_now, tell_one}
use Rattle.svid_check.proofs.WholeLemmas.{as_batch}

held_live : (lives held : Bool) → (held ≡ true → lives ≡ true) → (lives && held) ≡ held
held_live true held so = refl
held_live false true so = so refl
held_live false false so = refl

pub begins_as_given : BeginsAsGiven
begins_as_given a is =
    ap (λ (s : Uses). record { moment = a.moment; uses = s }) (same_uses (live a.uses a.moment) a.uses (λ u.
    holds-live a.uses a.moment u ∙ held_live (nat_lt a.moment u.exp) (holds a.uses u) (λ held. lt-ltb a.moment u.exp (is.each u held).live)))

at_now : (m now ahead : ℕ) → now < 2 ^ 64 → max m now ≤ reach m now ahead
at_now m now ahead small = omega arith

at_batch : (m now b ahead : ℕ) → now < 2 ^ 64 → b ≤ horizon now ahead → max (max m now) b ≤ reach m now ahead
at_batch m now b ahead small within = omega arith

next : (x y z now later ahead : ℕ) → y ≤ reach x now ahead → z ≤ reach y later ahead → z ≤ reach x (max now later) ahead
next x y z now later ahead one other = omega arith

unmoved : (m ahead : ℕ) → m ≤ reach m 0 ahead
unmoved m ahead = omega arith

pub ticks_are_bounded : TicksAreBounded
ticks_are_bounded x now ahead small = subst (λ n. n ≤ reach x.moment now ahead) (sym (moment-join x (state_of now []))) (at_now x.moment now ahead small)

-- a use of the record's own moment leaves the moment
same_moment : (x : State) (added : Option Use) → (gains x added).moment ≡ x.moment
same_moment x (Some u) = moment-join x (state_of x.moment (u ∷ [])) ∙ omega arith
same_moment x None = refl

gained_is_bounded : (x : State) (now ahead : ℕ) (added : Option Use) → now < 2 ^ 64 → (gains (raised_to x now) added).moment ≤ reach x.moment now ahead
gained_is_bounded x now ahead added small = subst (λ n. n ≤ reach x.moment now ahead) (sym (same_moment (raised_to x now) added)) (ticks_are_bounded x now ahead small)

pub checks_are_bounded : ChecksAreBounded
checks_are_bounded x now ahead answer small = gained_is_bounded x now ahead (accepted_in answer) small

pub withdrawals_are_bounded : WithdrawalsAreBounded
withdrawals_are_bounded x now ahead answer small = gained_is_bounded x now ahead (withdrawn_in answer) small

-- a join with what lies within the horizon
within : (x y b : State) (now ahead : ℕ) → now < 2 ^ 64 → b.moment ≤ horizon now ahead → y ≡ join (raised_to x now) b → y.moment ≤ reach x.moment now ahead
within x y b now ahead small far is =
    let moments : y.moment ≡ max (max x.moment now) b.moment =
    ap (λ (r : State). r.moment) is ∙ moment-join (raised_to x now) b ∙ ap (λ n. max n b.moment) (moment-join x (state_of now [])) in
    subst (λ n. n ≤ reach x.moment now ahead) (sym moments) (at_batch x.moment now b.moment ahead small far)

pub takes_are_bounded : TakesAreBounded
takes_are_bounded x y now ahead b (Ok taken) small h = within x y (batch_state b) now ahead small h.0 h.1
takes_are_bounded x y now ahead b (Err TooFarAhead) small h = subst (λ (r : State). r.moment ≤ reach x.moment now ahead) (sym h.1) (ticks_are_bounded x now ahead small)
takes_are_bounded x y now ahead b (Err OutOfMemory) small h = within x y (state_of b.moment h.1.front) now ahead small h.0 h.1.joined

pub record_takes_are_bounded : RecordTakesAreBounded
record_takes_are_bounded x y now ahead r answer small h = takes_are_bounded x y now ahead (batch_of r) answer small (as_batch (raised_to x now) (horizon now ahead) r answer y h)

pub answers_are_bounded : AnswersAreBounded
answers_are_bounded x y now ahead s (Ok batches) small h = within x y (state_of s.moment []) now ahead small h.0 h.2
answers_are_bounded x y now ahead s (Err TooFarAhead) small h = subst (λ (r : State). r.moment ≤ reach x.moment now ahead) (sym h.1) (ticks_are_bounded x now ahead small)
answers_are_bounded x y now ahead s (Err OutOfMemory) small h = within x y (state_of s.moment []) now ahead small h.0 h.1

told_added : (x : Told) (now ahead : ℕ) (added : Option Use) → now < 2 ^ 64 → (tell_one (tell_now x now) added).greatest ≤ reach x.greatest now ahead
told_added x now ahead (Some u) small = at_now x.greatest now ahead small
told_added x now ahead None small = at_now x.greatest now ahead small

told_take : (x y : Told) (now ahead : ℕ) (b : BatchData) (answer : Result (Unit {0}) TakeFault) → now < 2 ^ 64 → TellsBatch (tell_now x now) (horizon now ahead) b answer y → y.greatest ≤ reach x.greatest now ahead
told_take x y now ahead b (Ok taken) small h = subst (λ (z : Told). z.greatest ≤ reach x.greatest now ahead) (sym h.1) (at_batch x.greatest now b.moment ahead small h.0)
told_take x y now ahead b (Err TooFarAhead) small h = subst (λ (z : Told). z.greatest ≤ reach x.greatest now ahead) (sym h.1) (at_now x.greatest now ahead small)
told_take x y now ahead b (Err OutOfMemory) small h = subst (λ (z : Told). z.greatest ≤ reach x.greatest now ahead) (sym h.1.told) (at_batch x.greatest now b.moment ahead small h.0)

step_is_bounded : (t : Terms) (x y : Told) (event : Event) (answer : Answer) → now_of event < 2 ^ 64 → Step t x event answer y → y.greatest ≤ reach x.greatest (now_of event) t.ahead
step_is_bounded t x y (Check now token) (Checked answer) small h = subst (λ (z : Told). z.greatest ≤ reach x.greatest now t.ahead) (sym h.1) (told_added x now t.ahead (accepted_in answer) small)
step_is_bounded t x y (Withdraw now key exp) (Withdrawn answer) small h = subst (λ (z : Told). z.greatest ≤ reach x.greatest now t.ahead) (sym h.1) (told_added x now t.ahead (withdrawn_in answer) small)
step_is_bounded t x y (Tick now) Ticked small h = subst (λ (z : Told). z.greatest ≤ reach x.greatest now t.ahead) (sym h) (at_now x.greatest now t.ahead small)
step_is_bounded t x y (Take now batch) (Taken answer) small h = told_take x y now t.ahead batch.now answer small h
step_is_bounded t x y _ _ small h = absurd h

pub runs_are_bounded : RunsAreBounded
runs_are_bounded t x y [] [] small h = subst (λ (z : Told). z.greatest ≤ reach x.greatest 0 t.ahead) (sym h) (unmoved x.greatest t.ahead)
runs_are_bounded t x y (event ∷ events) (answer ∷ answers) small h =
    next x.greatest h.0.greatest y.greatest (now_of event) (latest events) t.ahead (step_is_bounded t x h.0 event answer small.0 h.1) (runs_are_bounded t h.0 y events answers small.1 h.2)
runs_are_bounded t x y [] (answer ∷ answers) small h = absurd h
runs_are_bounded t x y (event ∷ events) [] small h = absurd h

pub records_are_bounded : RecordsAreBounded
records_are_bounded t a b events answers is small h =
    let run = h (begun a) (begins_as_given a is) in
    subst (λ (r : State). r.moment ≤ reach a.moment (latest events) t.ahead) run.2 (runs_are_bounded t (begun a) run.0 events answers small run.1)
