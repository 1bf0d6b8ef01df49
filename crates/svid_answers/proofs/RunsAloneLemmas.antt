-- The calls of a member in mode once are events of its history, all of them.
use Rattle.std.proofs.Common.{◌≡◌, inl, inr, ◌≤◌, ◌++◌, List, [], ◌∷◌, refl, sym, ap, ◌∙◌, subst}
use Rattle.svid_replay.specs.Records as records
use Rattle.svid_requests.specs.declared.verdict.Verdict.{Verdict}
use Rattle.svid_requests.specs.declared.deed.Deed.{Deed}
use Rattle.svid_requests.specs.declared.deed.Deed.TheVariants.{Nothing}
use Rattle.svid_answers.specs.Alone.{AreAllowed, Event, WasGiven, answered, given_by, history}
use Rattle.svid_answers.specs.CallsAlone.{AreEvents, IsLife}
use Rattle.svid_answers.specs.RunsAlone.{Call, Does, Now, Run, RunsAnswerOnce}
use Rattle.svid_answers.specs.RunsAlone.Call.{Judge, Hear, Come, Join, Know, Begin}
use Rattle.svid_answers.proofs.AloneLemmas.{tokens_are_answered_once_here}
use Rattle.svid_answers.proofs.CallsAloneLemmas.{begins_are_events, comes_are_events, hears_are_events, joins_are_events, judges_are_events}

-- what a run left is what an allowed history leaves
record Reached (b : Now) : Type 0 where
  pub events : List Event
  pub allowed : AreAllowed events
  pub leaves : IsLife (history events) b.held b.member
  pub given : (history events).given ≡ b.given

on : (a b : Now) (deed : Deed) (r : Reached a) → AreEvents r.events b.held b.member deed → b.given ≡ given_by deed a.given → Reached b
on a b deed r e is = record { events = e.more ++ r.events; allowed = e.allowed; leaves = e.leaves; given = e.given ∙ ap (given_by deed) r.given ∙ sym is }

step : (c : Call) (a b : Now) → Reached a → Does c a b → Reached b
step (Judge now up n s said) a b r (inl same) = subst Reached (sym same) r
step (Judge now up n s said) a b r (inr d) =
    on a b d.1.deed r (subst (λ (x : records.State). AreEvents r.events x b.member d.1.deed) (sym d.4) (judges_are_events r.events now up n s said d.0 a.held a.member b.member d.1 r.allowed r.leaves d.2 d.3)) d.5
step (Hear up e) a b r d =
    on a b d.0 r (subst (λ (x : records.State). AreEvents r.events x b.member d.0) (sym d.3) (hears_are_events r.events up e a.held a.member b.member d.0 r.allowed r.leaves d.1 d.2)) d.4
step (Come up refused) a b r (inl same) = subst Reached (sym same) r
step (Come up refused) a b r (inr is) =
    subst Reached (sym is) (on a (record { held = a.held; member = _; given = a.given }) Nothing r (comes_are_events r.events up refused a.held a.member r.allowed r.leaves) refl)
step (Join other) a b r is = subst Reached (sym is) (on a (record { held = records.join a.held other; member = a.member; given = a.given }) Nothing r (joins_are_events r.events a.held other a.member r.allowed r.leaves) refl)
step (Know knows) a b r is =
    subst Reached (sym is) (record { events = r.events; allowed = r.allowed; leaves = record { mode = r.leaves.mode; held = r.leaves.held; requests = r.leaves.requests }; given = r.given })
step (Begin read kept wait ahead lasts life knows) a b r d =
    subst Reached (sym d.1)
    (on a (record { held = read; member = _; given = a.given }) Nothing r
    (begins_are_events r.events kept wait ahead lasts life knows read r.allowed (λ u was. d.0 u (subst (λ (given : List Verdict). WasGiven given u) r.given was))) refl)

reached : (calls : List Call) (b : Now) → Run calls b → Reached b
reached [] b is = subst Reached (sym is) (record { events = []; allowed = tt; leaves = record { mode = refl; held = refl; requests = refl }; given = refl })
reached (c ∷ calls) b run = step c run.0 b (reached calls run.0 run.1) run.2

pub runs_answer_once : RunsAnswerOnce
runs_answer_once calls b key exp run =
    let r = reached calls b run in
    subst (λ (given : List Verdict). answered key exp given ≤ 1) r.given (tokens_are_answered_once_here r.events key exp r.allowed)
