-- The calls of a member in mode once are events of its history.
use Rattle.std.proofs.Common.{◌≡◌, ◌<◌, ℕ, Bool, true, false, nat_lt, List, [], ◌∷◌, refl, sym, ap, ◌∙◌, subst, Option, Some, None, Ok, Err, Result}
use Rattle.std.proofs.lemmas.Bool.{cond_both}
use Rattle.svid_token.specs.Rows.{Answers}
use Rattle.svid_token.specs.declared.refusal.Refusal.{Refusal}
use Rattle.svid_replay.specs.Buckets.{raised_to}
use Rattle.svid_replay.specs.Records as records
use Rattle.svid_replay.specs.Uses.{has_use_of}
use Rattle.svid_check.specs.Changes.{gains}
use Rattle.svid_check.specs.Said.{Said}
use Rattle.svid_check.specs.Setting.{Setting}
use Rattle.svid_check.specs.Verdict.{verdict_on}
use Rattle.svid_check.specs.declared.accepted.Accepted.{Accepted}
use Rattle.svid_requests.specs.declared.judgment.Judgment.TheVariants.{Passes, Fails}
use Rattle.svid_requests.specs.declared.request.Request.{Request}
use Rattle.svid_requests.specs.declared.event.Event as requests
use Rattle.svid_requests.specs.declared.event.Event.TheVariants.{Judged}
use Rattle.svid_requests.specs.declared.stage.Stage.{Stage}
use Rattle.svid_requests.specs.declared.stage.Stage.TheVariants.{Judging, Writing, Claiming, Behind, Again}
use Rattle.svid_requests.specs.declared.deed.Deed.{Deed}
use Rattle.svid_requests.specs.Tables.{State, at_moment, claim_at, claim_of, find, heard, heard_deed}
use Rattle.svid_member.specs.declared.mode.Mode.{Mode}
use Rattle.svid_member.specs.declared.mode.Mode.TheVariants.{Once}
use Rattle.svid_member.specs.Claiming.{of_token}
use Rattle.svid_member.specs.Judging.{judged_by, judgment_of}
use Rattle.svid_member.specs.Members.{Hears, MemberData}
use Rattle.svid_member.specs.Modes.{adds_at_judgment, needs_of}
use Rattle.svid_member.specs.Reasons.{reason_of}
use Rattle.svid_answers.specs.Alone.{AreAllowed, Event, Life, given_by, history}
use Rattle.svid_answers.specs.Alone.Event.{Join, Come, Judges, Hear, Start}
use Rattle.svid_answers.specs.CallsAlone.{AreEvents, BeginsAreEvents, ComesAreEvents, HearsAreEvents, IsLife, JoinsAreEvents, JudgesAreEvents, NoneIsClaimed}
use Rattle.svid_answers.specs.Group.{comes}
use Rattle.svid_answers.proofs.AloneLemmas.{once_requests}
use Rattle.svid_answers.proofs.FitsLemmas.{AreFit, Fits, at_find, fits_turned}
use Rattle.svid_answers.proofs.RecordsLemmas.{accepts_says}
use Rattle.svid_answers.proofs.WritesLemmas.{no_claim}

-- its requests hear of something, and its record is another
heard_leaves : (w : Life) (held x y : records.State) (up : ℕ) (e : requests.Event) (m m_new : MemberData) (deed : Deed) → IsLife w x m → held ≡ y → (hears : Hears up e m deed m_new)
    → IsLife (record { held = held; requests = heard hears.0 (at_moment w.requests up) e; given = given_by (heard_deed hears.0 (at_moment w.requests up) e) w.given }) y m_new
heard_leaves w held x y up e m m_new deed h is hears = record {
  mode = ap (λ (d : MemberData). d.mode) hears.2 ∙ h.mode;
  held = is;
  requests = ap (λ (s : State). heard hears.0 (at_moment s up) e) h.requests ∙ ap (λ (d : MemberData). d.requests) (sym hears.2);
}

deed_is : (w : Life) (x : records.State) (up : ℕ) (e : requests.Event) (m m_new : MemberData) (deed : Deed) → IsLife w x m → (hears : Hears up e m deed m_new) → given_by (heard_deed hears.0 (at_moment w.requests up) e) w.given ≡ given_by deed w.given
deed_is w x up e m m_new deed h hears = ap (λ (d : Deed). given_by d w.given) (ap (λ (s : State). heard_deed hears.0 (at_moment s up) e) h.requests ∙ sym hears.1)

joined_leaves : (events : List Event) (x b : records.State) (m : MemberData) → IsLife (history events) x m → IsLife (history (Join b ∷ events)) (records.join x b) m
joined_leaves events x b m h = record { mode = h.mode; held = ap (λ (r : records.State). records.join r b) h.held; requests = h.requests }

pub hears_are_events : HearsAreEvents
hears_are_events events up e x m m_new deed allowed h none hears = record {
  more = Hear up hears.0 e ∷ [];
  allowed = (allowed, none);
  leaves = heard_leaves (history events) (history events).held x x up e m m_new deed h h.held hears;
  given = deed_is (history events) x up e m m_new deed h hears;
}

pub joins_are_events : JoinsAreEvents
joins_are_events events x b m allowed h = record { more = Join b ∷ []; allowed = (allowed, tt); leaves = joined_leaves events x b m h; given = refl }

pub comes_are_events : ComesAreEvents
comes_are_events events up refused x m allowed h = record {
  more = Come up refused ∷ [];
  allowed = (allowed, tt);
  leaves = record { mode = h.mode; held = h.held; requests = ap (λ (s : State). comes refused (at_moment s up)) h.requests };
  given = refl;
}

pub begins_are_events : BeginsAreEvents
begins_are_events events kept wait ahead lasts life known x allowed knows =
    record { more = Start x kept wait ∷ []; allowed = (allowed, knows); leaves = record { mode = refl; held = refl; requests = refl }; given = refl }

judged_events : (events : List Event) (now up n : ℕ) (s : Setting) (said : Said) (answer : Result Accepted Refusal) (x : records.State) (m m_new : MemberData) (deed : Deed) → AreAllowed events → IsLife (history events) x m
    → Answers Some answer (verdict_on s (raised_to x now).moment (raised_to x now).uses said) → Hears up (Judged n (judgment_of answer)) m deed m_new → AreEvents events (judged_by true (raised_to x now) answer) m_new deed
judged_events events now up n s said (Ok accepted) x m m_new deed allowed h is hears =
    let w = history events in
    let says = accepts_says s (raised_to x now).moment (raised_to x now).uses said accepted is in record {
      more = Judges now up n hears.0 accepted.used ∷ [];
      allowed = (
        allowed,
        subst (λ (r : records.State). ((raised_to r now).moment < accepted.used.exp) × (has_use_of (raised_to r now).uses accepted.used.key ≡ false)) (sym h.held) (says.live, says.unused),
      );
      leaves = heard_leaves w (gains (raised_to w.held now) (Some accepted.used)) x (gains (raised_to x now) (Some accepted.used)) up (Judged n (Passes accepted.used)) m m_new deed h
          (ap (λ (r : records.State). gains (raised_to r now) (Some accepted.used)) h.held) hears;
      given = deed_is w x up (Judged n (Passes accepted.used)) m m_new deed h hears;
    }
judged_events events now up n s said (Err refusal) x m m_new deed allowed h is hears =
    let joined = joined_leaves events x (records.state_of now []) m h in
    let w = history (Join (records.state_of now []) ∷ events) in
    let e = Judged n (Fails (reason_of refusal)) in record {
      more = Hear up hears.0 e ∷ Join (records.state_of now []) ∷ [];
      allowed = ((allowed, tt), refl);
      leaves = heard_leaves w w.held (raised_to x now) (raised_to x now) up e m m_new deed joined joined.held hears;
      given = deed_is w (raised_to x now) up e m m_new deed joined hears;
    }

pub judges_are_events : JudgesAreEvents
judges_are_events events now up n s said answer x m m_new asked allowed h is told =
    subst (λ (mode : Mode). AreEvents events (judged_by (adds_at_judgment mode) (raised_to x now) answer) m_new asked.deed) (sym h.mode) (judged_events events now up n s said answer x m m_new asked.deed allowed h is told.0)

-- No request waits for a claim.

stage_unclaimed : (kept : Bool) (g : Stage) → Fits (needs_of Once kept) g → claim_at g ≡ None
stage_unclaimed kept Judging h = refl
stage_unclaimed kept (Writing u) h = refl
stage_unclaimed kept (Claiming u) h = absurd (no_claim (λ d. true) kept u h)
stage_unclaimed kept (Behind u) h = refl
stage_unclaimed kept (Again u) h = refl

unclaimed : (kept : Bool) (now n : ℕ) (s : State) (o : Option Request) → AreFit (needs_of Once kept) s → find n s.table.requests ≡ o → claim_of now o ≡ None
unclaimed kept now n s None h is = refl
unclaimed kept now n s (Some r) h is =
    cond_both (nat_lt now r.deadline) (claim_at r.stage) None (λ o. o ≡ None)
    (λ _. stage_unclaimed kept r.stage (at_find (Fits (needs_of Once kept)) (fits_turned (needs_of Once kept)) n s.table.requests r h.fits is)) (λ _. refl)

pub none_is_claimed : NoneIsClaimed
none_is_claimed events up n said x m h =
    let once = once_requests events in
    let s = (history events).requests in
    subst (λ (r : State). of_token said (claim_of (at_moment r up).now (find n r.table.requests)) ≡ None) h.requests
    (ap (of_token said) (unclaimed once.0 (at_moment s up).now n s (find n s.table.requests) once.1 refl))
