-- What a member with a state folder answered 200 was acknowledged by the folder, so each start reads it.
use Rattle.std.proofs.Common.{◌≡◌, inl, inr, ◌++◌, ℕ, Bool, true, false, List, [], ◌∷◌, length, refl, sym, ap, ◌∙◌, subst, Option, None, Ok, Err, Result}
use Rattle.std.specs.List.{list_any}
use Rattle.std.proofs.lemmas.Bool.{cond_both, or_left}
use Rattle.std.proofs.lemmas.List.Folds.{list_any-append}
use Rattle.std.proofs.lemmas.Option.{none-some}
use Rattle.svid_token.specs.declared.refusal.Refusal.{Refusal}
use Rattle.svid_replay.specs.declared.token_use.Use.{Use}
use Rattle.svid_check.specs.declared.accepted.Accepted.{Accepted}
use Rattle.svid_journal.specs.Disk.{IsLeft, Outcome, as_seen}
use Rattle.svid_journal.specs.Folder.{answer_fault, begin_fault, landed_fault, piece_fault, put_fault}
use Rattle.svid_journal.specs.History.{AreAllowed, Event, IsAllowed, IsRead, Titles, World, after_answer, after_grow, after_piece, after_put, after_sync, fresh, grow_fault, happens, history, id_fault, with_disk}
use Rattle.svid_journal.specs.History.Event.{Begin, Answer, Piece, Put, Grow, Sync, WriteId, SyncId, RenameId, NameId, Crash, Start}
use Rattle.svid_journal.proofs.HistoryLemmas.{acknowledged_is_read, unless_both}
use Rattle.svid_requests.specs.declared.needs.Needs.TheVariants.{Write}
use Rattle.svid_requests.specs.declared.judgment.Judgment.TheVariants.{Passes, Holds, Fails}
use Rattle.svid_requests.specs.declared.verdict.Verdict.{Verdict}
use Rattle.svid_requests.specs.declared.verdict.Verdict.TheVariants.{Accept}
use Rattle.svid_requests.specs.declared.event.Event as requests
use Rattle.svid_requests.specs.declared.event.Event.TheVariants.{Judged, Wrote, Send, Found, Leave, Overdue}
use Rattle.svid_requests.specs.declared.deed.Deed.{Deed}
use Rattle.svid_requests.specs.declared.deed.Deed.TheVariants as deed
use Rattle.svid_requests.specs.Tables.{at_moment, came}
use Rattle.svid_member.specs.Judging.{judgment_of}
use Rattle.svid_member.specs.Members.{Hears, MemberData}
use Rattle.svid_answers.specs.Alone.{WasGiven, approved, given_by}
use Rattle.svid_answers.specs.RunsAlone as alone
use Rattle.svid_answers.specs.RunsAlone.Call.{Judge, Hear, Come, Join, Know, Begin as NextLife}
use Rattle.svid_answers.specs.RunsKept.{Call, Does, InFolder, AnsweredIsRead, IsWriting, Now, Run, RunsAnswerOnce}
use Rattle.svid_answers.specs.RunsKept.Call.{Member, Folder, Restart}
use Rattle.svid_answers.proofs.FitsLemmas.{AreFit, fit_begun, fit_came, fit_heard, fit_moment}
use Rattle.svid_answers.proofs.RunsAloneLemmas as alone_lemmas
use Rattle.svid_answers.proofs.WrittenLemmas.{answered_was_writing, held_use}

-- What a folder acknowledged stays so.

-- it acknowledged a payload that passes a test
abbrev Has : (List ℕ → Bool) → World → Type 0
Has has w = list_any has w.acknowledged ≡ true

stays : (has : List ℕ → Bool) (t : Titles) (w : World) (e : Event) → Has has w → Has has (happens t w e)
stays has t w e got = by e
  where
    synced : (ok : Bool) → Has has (after_sync w ok)
    synced true = list_any-append has w.acknowledged w.flying ∙ or_left (list_any has w.acknowledged) (list_any has w.flying) got
    synced false = got

    by : (e : Event) → Has has (happens t w e)
    by Begin = unless_both (begin_fault w.folder) _ w (Has has) (λ e. got) got
    by (Answer ok) = unless_both (answer_fault w.folder ok) (after_answer w ok) w (Has has) (λ e. got) got
    by (Piece payload ok landed) = unless_both (piece_fault w.folder (length payload)) (after_piece t w payload ok landed) w (Has has) (λ e. got) got
    by (Put payload ok landed) = unless_both (put_fault w.folder (length payload)) (after_put t w payload ok landed) w (Has has) (λ e. got) got
    by (Grow at landed) = unless_both (grow_fault w.folder) (after_grow w at landed) w (Has has) (λ e. got) got
    by (Sync ok) = unless_both (landed_fault w.folder) (after_sync w ok) w (Has has) (λ e. synced ok) got
    by (WriteId text ok landed) = unless_both (id_fault w.folder) (with_disk w _) w (Has has) (λ e. got) got
    by (SyncId ok) = unless_both (id_fault w.folder) (with_disk w _) w (Has has) (λ e. got) got
    by RenameId = unless_both (id_fault w.folder) (with_disk w _) w (Has has) (λ e. got) got
    by (NameId ok) = unless_both (id_fault w.folder) (with_disk w _) w (Has has) (λ e. got) got
    by (Crash left) = got
    by (Start oldest newest read) = got

-- one event more
history_push : (t : Titles) (events : List Event) (e : Event) (w : World) → history t (events ++ e ∷ []) w ≡ happens t (history t events w) e
history_push t [] e w = refl
history_push t (x ∷ events) e w = history_push t events e (happens t w x)

allowed_push : (has : List ℕ → Bool) (t : Titles) (events : List Event) (e : Event) (w : World) → AreAllowed has t events w → IsAllowed has t (history t events w) e → AreAllowed has t (events ++ e ∷ []) w
allowed_push has t [] e w all one = (one, tt)
allowed_push has t (x ∷ events) e w all one = (all.0, allowed_push has t events e (happens t w x) all.1 one)

-- An answer that accepts a use is given as that is on the disk.

approved_held : (e : requests.Event) → approved e ≡ None → held_use e ≡ None
approved_held (Judged n (Passes u)) is = refl
approved_held (Judged n (Holds u)) is = absurd (none-some u (sym is))
approved_held (Judged n (Fails why)) is = refl
approved_held (Wrote n ok) is = refl
approved_held (Send n) is = refl
approved_held (Found n j) is = refl
approved_held (Leave n) is = refl
approved_held Overdue is = refl

judged_held : (n : ℕ) (answer : Result Accepted Refusal) → held_use (Judged n (judgment_of answer)) ≡ None
judged_held n (Ok accepted) = refl
judged_held n (Err refusal) = refl

-- what holds of the uses of an answer, and of those of earlier ones
given_now : (Q : Use → Type 0) (d : Deed) (given : List Verdict) → ((n : ℕ) (u : Use) (next : Option ℕ) → d ≡ deed.Answer n (Accept u) next → Q u) → ((u : Use) → WasGiven given u → Q u) → (u : Use) → WasGiven (given_by d given) u → Q u
given_now Q deed.Nothing given now before u was = before u was
given_now Q (deed.Judge n) given now before u was = before u was
given_now Q (deed.Append n w) given now before u was = before u was
given_now Q (deed.Claim n w) given now before u was = before u was
given_now Q (deed.Answer n verdict next) given now before u (inl is) = now n u next (ap (λ v. deed.Answer n v next) is)
given_now Q (deed.Answer n verdict next) given now before u (inr was) = before u was

module _ (tells : Use → List ℕ → Bool) (t : Titles) where
  -- What was answered 200 is acknowledged, and no request waits for a claim. The calls are those of a member whose starts know all that.
  record Reached (b : Now) : Type 0 where
    pub events : List Event
    pub is : history t events fresh ≡ b.folder
    pub allowed : (u : Use) → AreAllowed (tells u) t events fresh
    pub calls : List alone.Call
    pub run : alone.Run calls b.alone
    pub fit : AreFit Write b.alone.member.requests
    pub kept : (u : Use) → WasGiven b.alone.given u → Has (tells u) b.folder

  -- an event in the folder, after which the member has done these calls, and is this
  in_folder : (a b : Now) (e : Event) (r : Reached a) (calls : List alone.Call) (x : alone.Now) → InFolder tells t a.folder e b.folder → alone.Run calls b.alone → b.alone ≡ x → AreFit Write x.member.requests → x.given ≡ a.alone.given → Reached b
  in_folder a b e r calls x d run is fit same = record {
    events = r.events ++ e ∷ [];
    is = history_push t r.events e fresh ∙ ap (λ (w : World). happens t w e) r.is ∙ sym d.1;
    allowed = λ u. allowed_push (tells u) t r.events e fresh (r.allowed u) (subst (λ (w : World). IsAllowed (tells u) t w e) (sym r.is) (d.0 u));
    calls = calls;
    run = run;
    fit = subst (λ (y : alone.Now). AreFit Write y.member.requests) (sym is) fit;
    kept = λ u was. subst (Has (tells u)) (sym d.1) (stays (tells u) t a.folder e (r.kept u (subst (λ (given : List Verdict). WasGiven given u) (ap (λ (y : alone.Now). y.given) is ∙ same) was)));
  }

  -- a call of the member
  by_member : (a b : Now) (c : alone.Call) (r : Reached a) → b.folder ≡ a.folder → alone.Does c a.alone b.alone → AreFit Write b.alone.member.requests → ((u : Use) → WasGiven b.alone.given u → Has (tells u) a.folder) → Reached b
  by_member a b c r same does fit kept =
      record { events = r.events; is = r.is ∙ sym same; allowed = r.allowed; calls = c ∷ r.calls; run = (a.alone, r.run, does); fit = fit; kept = λ u was. subst (Has (tells u)) (sym same) (kept u was) }

  -- its requests hear of something
  by_hearing : (a b : Now) (c : alone.Call) (r : Reached a) (up : ℕ) (e : requests.Event) (d : Deed) → b.folder ≡ a.folder → alone.Does c a.alone b.alone → Hears up e a.alone.member d b.alone.member → b.alone.given ≡ given_by d a.alone.given → held_use e ≡ None
      → ((n : ℕ) (u : Use) → e ≡ Wrote n true → IsWriting a.alone.member.requests n u → Has (tells u) a.folder) → Reached b
  by_hearing a b c r up e d same does hears given none wrote =
      let s = at_moment a.alone.member.requests up in
      let fit = fit_moment Write a.alone.member.requests up r.fit in
      by_member a b c r same does (subst (λ (m : MemberData). AreFit Write m.requests) (sym hears.2) (fit_heard Write hears.0 s e fit))
      (λ u was. given_now (λ u. Has (tells u) a.folder) d a.alone.given
      (λ n u next is. let w = answered_was_writing hears.0 s e n u next fit none (sym hears.1 ∙ is) in wrote n u w.0 w.1) r.kept u (subst (λ (given : List Verdict). WasGiven given u) given was))

  -- it answers nothing, and is this
  quietly : (a b : Now) (c : alone.Call) (r : Reached a) (x : alone.Now) → b.folder ≡ a.folder → alone.Does c a.alone b.alone → b.alone ≡ x → AreFit Write x.member.requests → x.given ≡ a.alone.given → Reached b
  quietly a b c r x same does is fit given =
      by_member a b c r same does (subst (λ (y : alone.Now). AreFit Write y.member.requests) (sym is) fit) (λ u was. r.kept u (subst (λ (given : List Verdict). WasGiven given u) (ap (λ (y : alone.Now). y.given) is ∙ given) was))

  -- every use that was answered 200 is read back from the files that are left
  is_read : (a : Now) (o : Outcome) (u : Use) → Reached a → WasGiven a.alone.given u → IsLeft a.folder.disk o → IsRead (tells u) t o
  is_read a o u r was left =
      acknowledged_is_read (tells u) t r.events (r.allowed u) (subst (Has (tells u)) (sym r.is) (r.kept u was)) o (subst (λ (w : World). IsLeft w.disk o) (sym r.is) left)

  step : (c : Call) (a b : Now) → Reached a → Does tells t c a b → Reached b
  step (Folder e) a b r d = in_folder a b e r r.calls a.alone d.0 (subst (alone.Run r.calls) (sym d.1) r.run) d.1 r.fit refl
  step (Restart oldest newest payloads read wait ahead lasts life knows) a b r d =
      in_folder a b (Start oldest newest payloads) r (NextLife read true wait ahead lasts life knows ∷ r.calls) _ d.0
      (a.alone, r.run, (λ u was. d.1 u ((d.0.0 u).2 (is_read a (as_seen a.folder.disk) u r was (inr refl))), d.2)) d.2 (fit_begun Write wait) refl
  step (Member (Judge now up n s said)) a b r (says, inl same, folder) = quietly a b (Judge now up n s said) r a.alone folder (inl same) same r.fit refl
  step (Member (Judge now up n s said)) a b r (says, inr d, folder) =
      by_hearing a b (Judge now up n s said) r up (Judged n (judgment_of d.0)) d.1.deed folder (inr d) d.3.0 d.5 (judged_held n d.0) (λ m u is. absurd (cc))
  step (Member (Hear up e)) a b r (says, d, folder) = by_hearing a b (Hear up e) r up e d.0 folder d d.2 d.4 (approved_held e d.1) says
  step (Member (Come up refused)) a b r (says, inl same, folder) = quietly a b (Come up refused) r a.alone folder (inl same) same r.fit refl
  step (Member (Come up refused)) a b r (says, inr is, folder) =
      let s = at_moment a.alone.member.requests up in
      let fit = fit_moment Write a.alone.member.requests up r.fit in
      quietly a b (Come up refused) r _ folder (inr is) is (cond_both refused s (came s) (AreFit Write) (λ _. fit) (λ _. fit_came Write s fit)) refl
  step (Member (Join other)) a b r (says, is, folder) = quietly a b (Join other) r _ folder is is r.fit refl
  step (Member (Know knows)) a b r (says, is, folder) = quietly a b (Know knows) r _ folder is is r.fit refl
  step (Member (NextLife read kept wait ahead lasts life knows)) a b r (says, d, folder) = absurd says

  reached : (cs : List Call) (b : Now) → Run tells t cs b → Reached b
  reached [] b is = subst Reached (sym is) (record { events = []; is = refl; allowed = λ u. tt; calls = []; run = refl; fit = fit_begun Write 0; kept = λ u was. absurd was })
  reached (c ∷ cs) b run = step c run.0 b (reached cs run.0 run.1) run.2

pub runs_answer_once : RunsAnswerOnce
runs_answer_once tells t cs b key exp run = let r = reached tells t cs b run in alone_lemmas.runs_answer_once r.calls b.alone key exp r.run

pub answered_is_read : AnsweredIsRead
answered_is_read tells t cs b u o run was left = is_read tells t b o u (reached tells t cs b run) was left
