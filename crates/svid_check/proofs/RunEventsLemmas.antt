-- A run of a validator of a group is a list of events of it.
use Rattle.std.proofs.Common.{◌≡◌, ℕ, nat_lt, List, [], ◌∷◌, Option, Some, None, refl, sym, ap, ◌∙◌, subst}
use Rattle.std.specs.Prelude.{Result, Ok, Err}
use Rattle.std.proofs.lemmas.Bool.{cond_both}
use Rattle.svid_token.specs.Rows.{Answers}
use Rattle.svid_replay.specs.Buckets.{raised_to}
use Rattle.svid_replay.specs.Batches.{BatchData}
use Rattle.svid_replay.specs.Records.{State, batch_state, state_of}
use Rattle.svid_replay.specs.Uses.{Uses}
use Rattle.svid_check.specs.declared.answer.Answer.{Answer}
use Rattle.svid_check.specs.declared.answer.Answer.TheVariants.{Checked, Ticked, Taken, Withdrawn}
use Rattle.svid_check.specs.declared.event.Event.{Event as Call}
use Rattle.svid_check.specs.declared.event.Event.TheVariants as call
use Rattle.svid_check.specs.declared.take_fault.TakeFault.{TakeFault}
use Rattle.svid_check.specs.declared.take_fault.TakeFault.TheVariants.{OutOfMemory, TooFarAhead}
use Rattle.svid_check.specs.Changes.{IsWithdrawal, Takes, gains, settled, withdrawn_in}
use Rattle.svid_check.specs.RunEvents.{AreCalls, ArePosted, IsCall, IsPosted, RunsAreEvents, terms_at}
use Rattle.svid_check.specs.Runs.{Runs, Step, Terms}
use Rattle.svid_check.specs.Setting.{Renewal, renewed}
use Rattle.svid_check.specs.Told.{TellsBatch, Told, record_of, tell_now}
use Rattle.svid_check.specs.Verdict.{verdict}
use Rattle.svid_check.specs.World.{Check, Entry, Event, Member, Posting, Take, Tick, Took, Withdraw, World, answer_at, checked, far, front, happen, happens, joined, logged, put, setting_at, start, take_part, take_posting, ticked, took, withdrawal_at, withdrew}
use Rattle.svid_check.proofs.EventsLemmas.{checks_are_events, takes_are_events, ticks_are_events, withdrawals_are_events}
use Rattle.svid_check.proofs.IndexesLemmas.{put_own, renewed_validator_id}
use Rattle.svid_check.proofs.RunsLemmas.{told_all, told_now, told_one, told_use}
use Rattle.svid_check.proofs.SoundLemmas.{is_sound}

-- what is learned by a take is what it leaves of the record
takes_back : (x y : Told) (last : ℕ) (b : BatchData) (answer : Result (Unit {0}) TakeFault) → TellsBatch x last b answer y → Takes (record_of x) last b answer (record_of y)
takes_back x y last b (Ok taken) h = (h.0, ap record_of h.1 ∙ told_all x (batch_state b))
takes_back x y last b (Err TooFarAhead) h = (h.0, ap record_of h.1)
takes_back x y last b (Err OutOfMemory) h =
    let part = h.1 in (
      h.0,
      record {
        front = part.front;
        refused = part.refused;
        rest = part.rest;
        parts = part.parts;
        joined = ap record_of part.told ∙ told_all x (state_of b.moment part.front);
        live = part.live;
        absent = part.absent;
      },
    )

took_renewal : (last : ℕ) (x : Member) (entry : Entry) (sender : Uses) (b : BatchData) (refused : Option ℕ) → (took last x entry sender b refused).renewal ≡ x.renewal
took_renewal last x entry sender b None = cond_both (nat_lt last b.moment) x (logged (joined x sender b) entry) (λ (m : Member). m.renewal ≡ x.renewal) (λ _. refl) (λ _. refl)
took_renewal last x entry sender b (Some n) = cond_both (nat_lt last b.moment) x (joined x sender (front n b)) (λ (m : Member). m.renewal ≡ x.renewal) (λ _. refl) (λ _. refl)

module _ (group : ℕ → Terms) (v : ℕ) where
  -- an event that is a call: it posts nothing, gives no other setting, and leaves the record of everything learned
  record Goes (w : World) (c : Call) (a : Answer) (y : Told) : Type 0 where
    event : Event
    is_call : IsCall group v w c a event
    pool : (happens group w event).pool ≡ w.pool
    renewal : ((happens group w event).members v).renewal ≡ (w.members v).renewal
    held : ((happens group w event).members v).held ≡ record_of y

  goes : (w : World) (x y : Told) (c : Call) (a : Answer) → record_of x ≡ (w.members v).held → IsPosted w.pool c → Step (terms_at group v w) x c a y → Goes w c a y
  goes w x y (call.Check now token) (Checked answer) is posted step =
      let told = told_now x (w.members v).held now is in
      let s = setting_at group w v in
      let due = subst (λ (r : State). Answers Some answer (verdict s r.moment r.uses token.now)) told step.0.0 in
      let g = checks_are_events group w v now token.now answer due step.0.1 in
      record {
        event = Check v now token.now g.0;
        is_call = (g.0, refl, g.1);
        pool = refl;
        renewal = ap (λ (m : Member). m.renewal) (put_own w v (checked (ticked (w.members v) now) (answer_at group w v now token.now g.0)));
        held = g.2 ∙ sym (ap record_of step.1 ∙ (told_use (tell_now x now) answer ∙ ap (λ (r : State). settled r answer) told));
      }
  goes w x y (call.Tick now) Ticked is posted step = record {
    event = Tick v now;
    is_call = refl;
    pool = refl;
    renewal = ap (λ (m : Member). m.renewal) (put_own w v (ticked (w.members v) now));
    held = ticks_are_events group w v now ∙ sym (ap record_of step ∙ told_now x (w.members v).held now is);
  }
  goes w x y (call.Take now batch) (Taken answer) is posted step =
      let b : BatchData = batch.now in
      let k = posted.0 in
      let p = posted.1 in
      let q = posted.2.0 in
      let z = ticked (w.members v) now in
      let last = far group v now in
      let takes = subst (λ (r : State). Takes r last b answer (record_of y)) (told_now x (w.members v).held now is) (takes_back (tell_now x now) y last b answer step) in
      let g = takes_are_events group w v now k p q b answer (record_of y) posted.2.1 posted.2.2 takes in
      let same : happens group w (Take v now k p g.0) ≡ put w v (took last z (Took k p) q.was.told.uses b g.0) =
      ap (λ (o : Option Posting). take_posting w v last z k p g.0 o) posted.2.1 ∙ ap (λ (o : Option BatchData). take_part w v last z (Took k p) g.0 q o) posted.2.2 in
      record {
        event = Take v now k p g.0;
        is_call = (k, p, g.0, posted.2, refl, subst (λ (r : State). Takes (raised_to (w.members v).held now) last b answer r) (sym g.1.0) takes, g.1.1);
        pool = ap (λ (after : World). after.pool) same;
        renewal = ap (λ (after : World). (after.members v).renewal) same ∙ ap (λ (m : Member). m.renewal) (put_own w v (took last z (Took k p) q.was.told.uses b g.0)) ∙ took_renewal last z (Took k p) q.was.told.uses b g.0;
        held = g.1.0;
      }
  goes w x y (call.Withdraw now key exp) (Withdrawn answer) is posted step =
      let told = told_now x (w.members v).held now is in
      let validator_id = (setting_at group w v).validator_id in
      let due = subst (λ (r : State). IsWithdrawal validator_id r.moment key exp answer) told step.0 in
      let g = withdrawals_are_events group w v now key exp answer (subst (λ (n : List ℕ). IsWithdrawal n (raised_to (w.members v).held now).moment key exp answer) (validator_id_of w) due) in
      record {
        event = Withdraw v now key exp g.0;
        is_call = (g.0, refl, g.1);
        pool = refl;
        renewal = ap (λ (m : Member). m.renewal) (put_own w v (withdrew (ticked (w.members v) now) (withdrawal_at group w v now key exp g.0)));
        held = g.2 ∙ sym (ap record_of step.1 ∙ (told_one (tell_now x now) (withdrawn_in answer) ∙ ap (λ (r : State). gains r (withdrawn_in answer)) told));
      }
    where
      validator_id_of : (w : World) → (setting_at group w v).validator_id ≡ (group v).setting.validator_id
      validator_id_of w = renewed_validator_id (group v).setting (w.members v).renewal
  goes w x y _ _ is posted step = absurd step

  run_goes : (calls : List Call) (answers : List Answer) (w : World) (x y : Told) → ArePosted w.pool calls → record_of x ≡ (w.members v).held → Runs (terms_at group v w) x calls answers y
      → (events : List Event) × AreCalls group v w calls answers events × (((happen group w events).members v).held ≡ record_of y)
  run_goes [] [] w x y posted is run = ([], tt, sym is ∙ sym (ap record_of run))
  run_goes (c ∷ calls) (a ∷ answers) w x y posted is run =
      let g = goes w x run.0 c a is posted.0 run.1 in
      let next = happens group w g.event in
      let terms : terms_at group v w ≡ terms_at group v next = ap (λ (r : Option Renewal). record { setting = renewed (group v).setting r; ahead = (group v).ahead }) (sym g.renewal) in
      let rest = run_goes calls answers next run.0 y (subst (λ (pool : List Posting). ArePosted pool calls) (sym g.pool) posted.1) (sym g.held) (subst (λ (t : Terms). Runs t run.0 calls answers y) terms run.2) in
      (g.event ∷ rest.0, (g.is_call, rest.1), rest.2)
  run_goes [] (a ∷ answers) w x y posted is run = absurd run
  run_goes (c ∷ calls) [] w x y posted is run = absurd run

pub runs_are_events : RunsAreEvents
runs_are_events group before v calls answers b posted run =
    let w = happen group start before in
    let told = sym ((is_sound group before).members v).is_told in
    let from = run (w.members v).told told in
    let g = run_goes group v calls answers w (w.members v).told from.0 posted told from.1 in
    (g.0, g.1, g.2 ∙ from.2)
