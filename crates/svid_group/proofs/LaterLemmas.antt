-- What an event leaves of a validator, and so that its record goes on to a later time.
use Rattle.std.proofs.Common.{◌≡◌, ℕ, Bool, true, false, Option, Some, None, sym, subst}
use Rattle.std.specs.Prelude.{◌==◌, drop, slice_get}
use Rattle.std.proofs.lemmas.Bool.{cond_both, eqb-true}
use Rattle.svid_replay.specs.declared.token_use.Use.{Use}
use Rattle.svid_replay.specs.Buckets.{raised_to}
use Rattle.svid_replay.specs.Records.{State}
use Rattle.svid_check.specs.Runs.{Terms}
use Rattle.svid_check.specs.SaveEvents as saves
use Rattle.svid_check.specs.Saves.{IsLater}
use Rattle.svid_check.specs.World as check
use Rattle.svid_check.specs.World.{Member, Restart, ticked}
use Rattle.svid_check.proofs.LaterLemmas.{gains_later, later_goes_on, raised_later, same_later}
use Rattle.svid_check.proofs.SaveEventsLemmas as lemmas
use Rattle.svid_log.specs.Groups as log
use Rattle.svid_log.specs.Steps.{fate_at, is_early, reached}
use Rattle.svid_group.specs.Told.{EventsLeaveLater, IsNoRestartOf}
use Rattle.svid_group.specs.World.{Anew, Aside, Call, Event, Look, Miss, Put, Read, World, aside_of, gain_by, happens, passed, put, read_next, reader_at, told_by}

-- R holds for a validator before and after a fine event, if it does so for calls, reads and fresh starts
module _ (R : Member → Member → Type 0) (same : (x : Member) → R x x) (reads : (far : ℕ) (x : Member) (a : Aside) (now : ℕ) (refused : Bool) (c : Use) → R x (told_by far x a now refused c))
    (group : ℕ → Terms) (w : World) (v : ℕ) (Fine : Event → Type 0) (calls : (e : check.Event) → Fine (Call e) → R (w.group.members v) ((check.happens group w.group e).members v))
    (begins : (n front until : ℕ) → Fine (Anew n front until) → n ≡ v → R (w.group.members n) (check.with_renewal check.new_member (w.group.members n).renewal)) where
  abbrev On : World → Type 0
  On after = R (w.group.members v) (after.group.members v)

  put_on : (n : ℕ) (x : Member) (a : Aside) → (n ≡ v → R (w.group.members n) x) → On (put w n x a)
  put_on n x a on =
      cond_both (v == n) x (w.group.members v) (R (w.group.members v)) (λ e. let is = eqb-true v n e in subst (λ i. R (w.group.members i) x) (sym is) (on (sym is)))
      (λ _. same (w.group.members v))

  read_on : (far n now : ℕ) (refused : Bool) (o : Option Use) → On (read_next far w n now refused o)
  read_on far n now refused None = same (w.group.members v)
  read_on far n now refused (Some c) =
      let x = w.group.members n in
      put_on n (told_by far x (w.asides n) now refused c) (aside_of (log.reads far (reader_at w n) now refused c)) (λ _. reads far x (w.asides n) now refused c)

  pub goes_on : (e : Event) → Fine e → R (w.group.members v) ((happens group w e).group.members v)
  goes_on (Call e) fine = calls e fine
  goes_on (Put u) fine = same (w.group.members v)
  goes_on (Read n now refused) fine = read_on (check.far group n now) n now refused (slice_get w.log (w.asides n).read)
  goes_on (Look n) fine = put_on n (w.group.members n) (aside_of (log.looked (reader_at w n))) (λ _. same (w.group.members n))
  goes_on (Anew n front until) fine =
      let x = check.with_renewal check.new_member (w.group.members n).renewal in
      let a = aside_of (log.begins (reader_at w n) (log.reader_behind front until)) in
      cond_both (log.is_gone until front w.log) (put w n x a) w On (λ _. put_on n x a (begins n front until fine)) (λ _. same (w.group.members v))
  goes_on (Miss n more until) fine =
      let x = w.group.members n in
      let a = aside_of (log.missed (reader_at w n) more until) in
      cond_both (log.is_gone until more (drop (w.asides n).read w.log)) (put w n x a) w On (λ _. put_on n x a (λ _. same x)) (λ _. same (w.group.members v))

-- Records go on.

pub reached_later : (far : ℕ) (x : State) (now : ℕ) (c : Use) → IsLater x (reached x now far c)
reached_later far x now c =
    let y = raised_to x now in
    cond_both (is_early y far c) y (raised_to y c.at) (IsLater x) (λ _. raised_later x now) (λ _. later_goes_on x y (raised_to y c.at) (raised_later x now) (raised_later y c.at))

passed_later : (far : ℕ) (x : Member) (now : ℕ) (c : Use) → IsLater x.held (passed far x now c).held
passed_later far x now c =
    let y = ticked x now in
    let z = ticked y c.at in
    cond_both (is_early y.held far c) y z (λ (m : Member). IsLater x.held m.held) (λ _. raised_later x.held now) (λ _. later_goes_on x.held y.held z.held (raised_later x.held now) (raised_later y.held c.at))

told_later : (far : ℕ) (x : Member) (a : Aside) (now : ℕ) (refused : Bool) (c : Use) → IsLater x.held (told_by far x a now refused c).held
told_later far x a now true c = passed_later far x now c
told_later far x a now false c = gains_later x.held (passed far x now c).held (gain_by (fate_at x.held a.uses now far c) c) (passed_later far x now c)

no_restart : (v : ℕ) (e : check.Event) → IsNoRestartOf v (Call e) → saves.IsNoRestartOf v e
no_restart v (Restart n k) free = free
no_restart v _ free = tt

pub events_leave_later : EventsLeaveLater
events_leave_later group w v e free =
    goes_on (λ x y. IsLater x.held y.held) (λ x. same_later x.held) told_later group w v (IsNoRestartOf v) (λ c fine. lemmas.events_leave_later group w.group v c (no_restart v c fine))
    (λ n front until fine is. absurd (fine is)) e free
