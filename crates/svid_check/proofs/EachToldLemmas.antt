-- An invariant of all events of a validator holds for each validator. So a property of every use that is accepted is a property of every use that
-- is learned.
use Rattle.std.proofs.Common.{◌≡◌, ◌≤◌, ℕ, Bool, true, false, cond, if◌then◌else◌, nat_lt, List, [], ◌∷◌, length, Contains, IsTrue, Option, Some, None, Result, Ok, Err, refl, sym, ap, ◌∙◌, subst, inl, inr}
use Rattle.std.specs.Prelude.{slice_get, ◌==◌}
use Rattle.std.specs.List.{AllByRecursion}
use Rattle.std.specs.Ordering.{eq_by_cmp}
use Rattle.std.proofs.lemmas.Bool.{cond_both, false≢true, ltb-false, or_cases}
use Rattle.std.proofs.lemmas.List.Elements.{Contains-append_cases, Contains-append_left, Contains-append_right}
use Rattle.std.proofs.lemmas.Option.{none-some, same_Some}
use Rattle.svid_token.specs.declared.refusal.Refusal.{Refusal}
use Rattle.svid_replay.specs.declared.token_use.Use.{Use}
use Rattle.svid_replay.specs.Batches.{BatchData}
use Rattle.svid_replay.specs.Buckets.{answer_to, raised_to, summary_of}
use Rattle.svid_replay.specs.Parts.{parts_of}
use Rattle.svid_replay.specs.Records.{State}
use Rattle.svid_replay.specs.Sets.{holds, union, with}
use Rattle.svid_replay.specs.Summary.{SummaryData}
use Rattle.svid_replay.specs.Use.{use_cmp}
use Rattle.svid_replay.specs.Uses.{Uses}
use Rattle.svid_replay.proofs.ListLemmas.{each_true, has_cases, has_first, has_none}
use Rattle.svid_replay.proofs.TestsLemmas.{equal}
use Rattle.svid_replay.proofs.UseLemmas.{use_exact}
use Rattle.svid_replay.proofs.UsesLemmas.{holds-union, no_uses_hold_none, with_holds_one_more}
use Rattle.svid_check.specs.declared.accepted.Accepted.{Accepted}
use Rattle.svid_check.specs.declared.withdraw_fault.WithdrawFault.TheVariants as withdraw
use Rattle.svid_check.specs.Changes.{accepted_in, horizon, withdrawal, withdrawn_in}
use Rattle.svid_check.specs.Headline.{ToldWereAccepted, ToldWereWithdrawn}
use Rattle.svid_check.specs.Runs.{Terms}
use Rattle.svid_check.specs.Setting.{Setting, Renewal}
use Rattle.svid_check.specs.Told.{tell_one}
use Rattle.svid_check.specs.Saves.{piece_of}
use Rattle.svid_check.specs.World.{Answer, Answered, Check, Content, Entry, Event, Made, Member, OldSend, Posting, Restart, Save, Saved, Send, Sent, Sum, Summed, Take, Tick, Took, Withdraw, World, accepted, accepted_by, answer_at, answer_content, answer_posting, answer_summary, carried, check_answer, front, gained, happen, happens, has_withdrawal, joined, logged, new_member, old_parts_of, one_or_none, parts_in, post, put, restart, save, start, take_part, take_posting, ticked, took, withdraw_answer, withdrawal_at, withdrawn, withdrawn_by, Renew, setting_at, with_renewal, Piece, Pieced}
use Rattle.svid_check.proofs.AnswersLemmas.{accepted_is}
use Rattle.svid_check.proofs.LawfulLemmas.{is_used}
use Rattle.svid_check.proofs.MembersLemmas.{carried_within}
use Rattle.svid_check.proofs.IndexesLemmas.{index_cases}

-- each validator, as it is, as it was at each posting, and as it was at each save
pub record Everywhere (I : Member → Type 0) (w : World) : Type 0 where
  pub members : (v : ℕ) → I (w.members v)
  pub pool : (k : ℕ) (q : Posting) → slice_get w.pool k ≡ Some q → I q.was
  pub saves : (k : ℕ) (s : Saved) → slice_get w.saves k ≡ Some s → I s.was

-- N holds of the moment of an event, if it has one
abbrev pub IsAt : (ℕ → Type 0) → Event → Type 0
IsAt N (Check v now token refused) = N now
IsAt N (Withdraw v now key exp refused) = N now
IsAt N (Tick v now) = N now
IsAt N (Answer v now posting refused) = N now
IsAt N (Take v now posting part refused) = N now
IsAt N _ = Unit {0}

-- what each change of a validator keeps, where N holds of the moments and A of the uses that are accepted and of the withdrawals
pub record IsKept (N : ℕ → Type 0) (A : Use → Type 0) (I : Member → Type 0) : Type 0 where
  pub within : (now ahead m : ℕ) → m ≤ horizon now ahead → N m
  pub new : I new_member
  pub ticks : (x : Member) (now : ℕ) → N now → I x → I (ticked x now)
  pub adds : (x : Member) (added : Option Use) → ((u : Use) → added ≡ Some u → A u) → I x → I (gained x added)
  pub logs : (x : Member) (entry : Entry) → I x → I (logged x entry)
  pub renews : (x : Member) (renewal : Option Renewal) → I x → I (with_renewal x renewal)
  pub joins : (x maker : Member) (b : BatchData) → N b.moment → I x → I maker → I (joined x maker.told.uses b)

module _ (N : ℕ → Type 0) (A : Use → Type 0) (I : Member → Type 0) (kept : IsKept N A I) where
  pub start_everywhere : Everywhere I start
  start_everywhere = record { members = λ v. kept.new; pool = λ k q at. absurd (none-some q at); saves = λ k s at. absurd (none-some s at) }

  put_everywhere : (w : World) (v : ℕ) (x : Member) → Everywhere I w → I x → Everywhere I (put w v x)
  put_everywhere w v x h is = record { members = λ n. cond_both (n == v) x (w.members n) I (λ _. is) (λ _. h.members n); pool = h.pool; saves = h.saves }

  post_everywhere : (w : World) (v : ℕ) (x : Member) (content : Content) → Everywhere I w → I x → Everywhere I (post w v x content)
  post_everywhere w v x content h is = record {
    members = h.members;
    pool = λ k q at. elim (index_cases w.pool (record { maker = v; was = x; content = content }) k q at) [ inl before ↦ h.pool k q before | inr same ↦ subst (λ (p : Posting). I p.was) same is ];
    saves = h.saves;
  }

  save_everywhere : (w : World) (v : ℕ) (x : Member) → Everywhere I w → I x → Everywhere I (save w v x)
  save_everywhere w v x h is = record {
    members = h.members;
    pool = h.pool;
    saves = λ k s at. elim (index_cases w.saves (record { owner = v; was = x }) k s at) [ inl before ↦ h.saves k s before | inr same ↦ subst (λ (r : Saved). I r.was) same is ];
  }

  took_is : (now ahead : ℕ) (x maker : Member) (entry : Entry) (b : BatchData) (refused : Option ℕ) → I x → I maker → I (took (horizon now ahead) x entry maker.told.uses b refused)
  took_is now ahead x maker entry b None is made =
      cond_both (nat_lt (horizon now ahead) b.moment) x (logged (joined x maker.told.uses b) entry) I (λ _. is)
      (λ e. kept.logs (joined x maker.told.uses b) entry (kept.joins x maker b (kept.within now ahead b.moment (ltb-false (horizon now ahead) b.moment e)) is made))
  took_is now ahead x maker entry b (Some n) is made =
      cond_both (nat_lt (horizon now ahead) b.moment) x (joined x maker.told.uses (front n b)) I (λ _. is)
      (λ e. kept.joins x maker (front n b) (kept.within now ahead b.moment (ltb-false (horizon now ahead) b.moment e)) is made)

  take_part_is : (w : World) (v now ahead : ℕ) (x : Member) (entry : Entry) (refused : Option ℕ) (q : Posting) (b : Option BatchData) → Everywhere I w → I x → I q.was
      → Everywhere I (take_part w v (horizon now ahead) x entry refused q b)
  take_part_is w v now ahead x entry refused q None h is made = h
  take_part_is w v now ahead x entry refused q (Some b) h is made = put_everywhere w v (took (horizon now ahead) x entry q.was.told.uses b refused) h (took_is now ahead x q.was entry b refused is made)

  take_posting_is : (w : World) (v now ahead : ℕ) (x : Member) (k p : ℕ) (refused : Option ℕ) (q : Option Posting) → Everywhere I w → I x → slice_get w.pool k ≡ q
      → Everywhere I (take_posting w v (horizon now ahead) x k p refused q)
  take_posting_is w v now ahead x k p refused None h is at = h
  take_posting_is w v now ahead x k p refused (Some q) h is at = take_part_is w v now ahead x (Took k p) refused q (slice_get (parts_in q.content) p) h is (h.pool k q at)

  answer_summary_is : (w : World) (v now ahead : ℕ) (x : Member) (k : ℕ) (refused : Bool) (s : SummaryData) → Everywhere I w → I x → Everywhere I (answer_summary w v (horizon now ahead) x k refused s)
  answer_summary_is w v now ahead x k refused s h is =
      let y = ticked x s.moment in
      let told = put w v y in
      let posted = post told v y (Answered k (answer_to x.held s)) in
      cond_both (nat_lt (horizon now ahead) s.moment) (put w v x) (cond refused told posted) (Everywhere I) (λ _. put_everywhere w v x h is)
      (λ e.
      let later = kept.ticks x s.moment (kept.within now ahead s.moment (ltb-false (horizon now ahead) s.moment e)) is in
      let put_later = put_everywhere w v y h later in
      cond_both refused told posted (Everywhere I) (λ _. put_later) (λ _. post_everywhere told v y (Answered k (answer_to x.held s)) put_later later))

  answer_content_is : (w : World) (v now ahead : ℕ) (x : Member) (k : ℕ) (refused : Bool) (c : Content) → Everywhere I w → I x → Everywhere I (answer_content w v (horizon now ahead) x k refused c)
  answer_content_is w v now ahead x k refused (Sent parts) h is = h
  answer_content_is w v now ahead x k refused (Summed s) h is = answer_summary_is w v now ahead x k refused s h is
  answer_content_is w v now ahead x k refused (Answered summary parts) h is = h
  answer_content_is w v now ahead x k refused (Pieced piece) h is = h

  answer_posting_is : (w : World) (v now ahead : ℕ) (x : Member) (k : ℕ) (refused : Bool) (q : Option Posting) → Everywhere I w → I x → Everywhere I (answer_posting w v (horizon now ahead) x k refused q)
  answer_posting_is w v now ahead x k refused None h is = h
  answer_posting_is w v now ahead x k refused (Some q) h is = answer_content_is w v now ahead x k refused q.content h is

  restart_is : (w : World) (v k : ℕ) (s : Option Saved) → Everywhere I w → slice_get w.saves k ≡ s → Everywhere I (restart w v s)
  restart_is w v k None h at = h
  restart_is w v k (Some s) h at =
      let x = with_renewal s.was (w.members v).renewal in
      cond_both (s.owner == v) (put w v x) w (Everywhere I) (λ _. put_everywhere w v x h (kept.renews s.was (w.members v).renewal (h.saves k s at))) (λ _. h)

  module _ (group : ℕ → Terms) where
    -- a use is added by an event, if one is
    added_everywhere : (w : World) (v now : ℕ) (added : Option Use) → N now → ((u : Use) → Contains (one_or_none added) u → A u) → Everywhere I w → Everywhere I (put w v (gained (ticked (w.members v) now) added))
    added_everywhere w v now added at uses h =
        let x = ticked (w.members v) now in
        put_everywhere w v (gained x added) h (kept.adds x added (λ u is. uses u (subst (λ (o : Option Use). Contains (one_or_none o) u) (sym is) (has_first u []))) (kept.ticks (w.members v) now at (h.members v)))

    pub happens_everywhere : (w : World) (e : Event) → IsAt N e → ((u : Use) → Contains (accepted_by group w e) u → A u) → ((u : Use) → Contains (withdrawn_by group w e) u → A u) → Everywhere I w → Everywhere I (happens group w e)
    happens_everywhere w (Check v now token refused) at uses gone h = added_everywhere w v now (accepted_in (answer_at group w v now token refused)) at uses h
    happens_everywhere w (Withdraw v now key exp refused) at uses gone h = added_everywhere w v now (withdrawn_in (withdrawal_at group w v now key exp refused)) at gone h
    happens_everywhere w (OldSend v) at uses gone h =
        let x = w.members v in
        cond_both (has_withdrawal x.held) w (post w v x (Sent (old_parts_of x.held))) (Everywhere I) (λ _. h) (λ _. post_everywhere w v x (Sent (old_parts_of x.held)) h (h.members v))
    happens_everywhere w (Tick v now) at uses gone h = put_everywhere w v (ticked (w.members v) now) h (kept.ticks (w.members v) now at (h.members v))
    happens_everywhere w (Send v) at uses gone h = post_everywhere w v (w.members v) (Sent (parts_of (w.members v).held)) h (h.members v)
    happens_everywhere w (Sum v) at uses gone h =
        let x = logged (w.members v) (Made (length w.pool)) in
        post_everywhere (put w v x) v (w.members v) (Summed (summary_of (w.members v).held)) (put_everywhere w v x h (kept.logs (w.members v) (Made (length w.pool)) (h.members v))) (h.members v)
    happens_everywhere w (Answer v now k refused) at uses gone h =
        answer_posting_is w v now (group v).ahead (ticked (w.members v) now) k refused (slice_get w.pool k) h (kept.ticks (w.members v) now at (h.members v))
    happens_everywhere w (Take v now k p refused) at uses gone h =
        take_posting_is w v now (group v).ahead (ticked (w.members v) now) k p refused (slice_get w.pool k) h (kept.ticks (w.members v) now at (h.members v)) refl
    happens_everywhere w (Save v) at uses gone h = save_everywhere w v (w.members v) h (h.members v)
    happens_everywhere w (Piece v after most) at uses gone h = post_everywhere w v (w.members v) (Pieced (piece_of (w.members v).held after most)) h (h.members v)
    happens_everywhere w (Restart v k) at uses gone h = restart_is w v k (slice_get w.saves k) h refl
    happens_everywhere w (Renew v renewal) at uses gone h = put_everywhere w v (with_renewal (w.members v) (Some renewal)) h (kept.renews (w.members v) (Some renewal) (h.members v))

    pub happen_everywhere : (w : World) (events : List Event) → AllByRecursion (IsAt N) events → ((u : Use) → Contains (accepted group w events) u → A u) → ((u : Use) → Contains (withdrawn group w events) u → A u)
        → Everywhere I w → Everywhere I (happen group w events)
    happen_everywhere w [] at uses gone h = h
    happen_everywhere w (e ∷ events) at uses gone h =
        let next = happens group w e in
        happen_everywhere next events at.1
        (λ u has. uses u (Contains-append_right (accepted_by group w e) (accepted group next events) u has))
        (λ u has. gone u (Contains-append_right (withdrawn_by group w e) (withdrawn group next events) u has))
        (happens_everywhere w e at.0
        (λ u has. uses u (Contains-append_left (accepted_by group w e) (accepted group next events) u has))
        (λ u has. gone u (Contains-append_left (withdrawn_by group w e) (withdrawn group next events) u has)) h)

-- P holds of each use of the set
abbrev pub Each : (Use → Type 0) → Uses → Type 0
Each P s = (u : Use) → IsTrue (holds s u) → P u

-- P holds for each use that a validator has learned, by now, at each posting and at each save
abbrev pub AllTold : (Use → Type 0) → World → Type 0
AllTold P w = Everywhere (λ x. Each P x.told.uses) w

module _ (P : Use → Type 0) where
  with_each : (s : Uses) (new : Use) → Each P s → P new → Each P (with s new)
  with_each s new each is u has = elim (or_cases (eq_by_cmp use_cmp u new) (holds s u) (sym (with_holds_one_more s new u) ∙ has)) [
    | inl tied ↦ subst P (sym (use_exact u new (equal (use_cmp u new) tied))) is
    | inr held ↦ each u held
  ]

  union_each : (s t : Uses) → Each P s → Each P t → Each P (union s t)
  union_each s t each also u has = elim (or_cases (holds t u) (holds s u) (sym (holds-union s t u) ∙ has)) [ inl new ↦ also u new | inr held ↦ each u held ]

  gained_each : (x : Member) (added : Option Use) → ((u : Use) → added ≡ Some u → P u) → Each P x.told.uses → Each P (tell_one x.told added).uses
  gained_each x (Some u) is each = with_each x.told.uses u each (is u refl)
  gained_each x None is each = each

  each_is_kept : IsKept (λ n. Unit {0}) P (λ x. Each P x.told.uses)
  each_is_kept = record {
    within = λ now ahead m h. tt;
    new = λ u has. absurd (false≢true (sym (no_uses_hold_none u) ∙ has));
    ticks = λ x now at each. each;
    adds = gained_each;
    logs = λ x entry each. each;
    renews = λ x renewal each. each;
    joins = λ x maker b at each made. union_each x.told.uses (carried maker.told.uses b) each (λ u has. made u (carried_within maker.told.uses b u has));
  }

-- at whatever moment
any_moment : (e : Event) → IsAt (λ n. Unit {0}) e
any_moment (Check v now token refused) = tt
any_moment _ = tt

-- what holds for each use that the group accepts, and for each withdrawal that it makes, holds for each use that is learned
pub each_told : (group : ℕ → Terms) (events : List Event) (P : Use → Type 0) → ((u : Use) → Contains (accepted group start events) u → P u) → ((u : Use) → Contains (withdrawn group start events) u → P u)
    → AllTold P (happen group start events)
each_told group events P is gone =
    let I : Member → Type 0 = λ x. Each P x.told.uses in
    let kept = each_is_kept P in
    happen_everywhere (λ n. Unit {0}) P I kept group start events (each_true (IsAt (λ n. Unit {0})) any_moment events) is gone (start_everywhere (λ n. Unit {0}) P I kept)

-- Accepted uses are no withdrawals.

at_most_one : (added : Option Use) (u : Use) → Contains (one_or_none added) u → added ≡ Some u
at_most_one (Some v) u has = elim (has_cases v [] u has) [ inl same ↦ ap Some same | inr later ↦ has_none u later ]
at_most_one None u has = has_none u has

accepted_used : (s : Setting) (x : State) (token : List ℕ) (refused : Bool) (answer : Result Accepted Refusal) (u : Use) → check_answer s x token refused ≡ answer → accepted_in answer ≡ Some u → u.withdrawn ≡ false
accepted_used s x token refused (Ok accepted) u is one =
    let same : accepted.used ≡ u = same_Some accepted.used u one in
    subst (λ (v : Use). v.withdrawn ≡ false) same (is_used s x.moment x.uses token accepted.used (accepted_is s x token refused accepted is))
accepted_used s x token refused (Err refusal) u is one = absurd (none-some u one)

withdrawn_gone : (validator_id : List ℕ) (x : State) (key : List ℕ) (exp : ℕ) (in_time refused : Bool) (u : Use)
    → withdrawn_in (if in_time then (if refused then Err withdraw.OutOfMemory else Ok (withdrawal validator_id x.moment key exp)) else Err withdraw.Expired) ≡ Some u → u ≡ withdrawal validator_id x.moment key exp
withdrawn_gone validator_id x key exp true true u one = absurd (none-some u one)
withdrawn_gone validator_id x key exp true false u one = sym (same_Some (withdrawal validator_id x.moment key exp) u one)
withdrawn_gone validator_id x key exp false refused u one = absurd (none-some u one)

-- what a withdrawal adds
pub withdrawal_is : (validator_id : List ℕ) (x : State) (key : List ℕ) (exp : ℕ) (refused : Bool) (u : Use) → Contains (one_or_none (withdrawn_in (withdraw_answer validator_id x key exp refused))) u → u ≡ withdrawal validator_id x.moment key exp
withdrawal_is validator_id x key exp refused u has =
    withdrawn_gone validator_id x key exp (nat_lt x.moment exp) refused u (at_most_one (withdrawn_in (withdraw_answer validator_id x key exp refused)) u has)

module _ (group : ℕ → Terms) where
  used_by : (w : World) (e : Event) (u : Use) → Contains (accepted_by group w e) u → u.withdrawn ≡ false
  used_by w (Check v now token refused) u has =
      let answer = answer_at group w v now token refused in
      accepted_used (setting_at group w v) (raised_to (w.members v).held now) token refused answer u refl (at_most_one (accepted_in answer) u has)
  used_by w _ u has = has_none u has

  gone_by : (w : World) (e : Event) (u : Use) → Contains (withdrawn_by group w e) u → u.withdrawn ≡ true
  gone_by w (Withdraw v now key exp refused) u has = ap (λ (v : Use). v.withdrawn) (withdrawal_is (group v).setting.validator_id (raised_to (w.members v).held now) key exp refused u has)
  gone_by w _ u has = has_none u has

  all_used : (w : World) (events : List Event) (u : Use) → Contains (accepted group w events) u → u.withdrawn ≡ false
  all_used w [] u has = has_none u has
  all_used w (e ∷ events) u has = elim (Contains-append_cases (accepted_by group w e) (accepted group (happens group w e) events) u has) [
    | inl now ↦ used_by w e u now
    | inr later ↦ all_used (happens group w e) events u later
  ]

  all_gone : (w : World) (events : List Event) (u : Use) → Contains (withdrawn group w events) u → u.withdrawn ≡ true
  all_gone w [] u has = has_none u has
  all_gone w (e ∷ events) u has = elim (Contains-append_cases (withdrawn_by group w e) (withdrawn group (happens group w e) events) u has) [
    | inl now ↦ gone_by w e u now
    | inr later ↦ all_gone (happens group w e) events u later
  ]

not_both : {A : Type 0} (b : Bool) → b ≡ false → b ≡ true → A
not_both b is_not is = absurd (false≢true (sym is_not ∙ is))

pub told_were_accepted : ToldWereAccepted
told_were_accepted group events v u has =
    (each_told group events (λ w. w.withdrawn ≡ false → Contains (accepted group start events) w) (λ w in_list _. in_list) (λ w in_list is_not. not_both w.withdrawn is_not (all_gone group start events w in_list))).members v u has

pub told_were_withdrawn : ToldWereWithdrawn
told_were_withdrawn group events v u has =
    (each_told group events (λ w. w.withdrawn ≡ true → Contains (withdrawn group start events) w) (λ w in_list is. not_both w.withdrawn (all_used group start events w in_list) is) (λ w in_list _. in_list)).members v u has
