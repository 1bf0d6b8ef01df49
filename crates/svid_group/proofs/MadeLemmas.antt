-- An invariant of all events of a validator that reads a log holds for each validator. So nothing is learned that was not made.
use Rattle.std.proofs.Common.{◌≡◌, ℕ, zero, suc, Bool, true, false, List, [], ◌∷◌, Contains, Option, Some, None, refl, sym, ◌∙◌, subst, inl, inr}
use Rattle.std.specs.Prelude.{◌==◌, drop, slice_get}
use Rattle.std.specs.List.{AllByRecursion}
use Rattle.std.specs.Ordering.{eq_by_cmp}
use Rattle.std.proofs.lemmas.Bool.{cond_both, false≢true, or_cases}
use Rattle.std.proofs.lemmas.List.Elements.{Contains-append_left, Contains-append_right, Contains-push_cases}
use Rattle.std.proofs.lemmas.Option.{none-some, same_Some}
use Rattle.svid_replay.specs.declared.token_use.Use.{Use}
use Rattle.svid_replay.specs.Sets.{holds, union, with}
use Rattle.svid_replay.specs.Use.{use_cmp}
use Rattle.svid_replay.specs.Uses.{Uses}
use Rattle.svid_replay.proofs.ListLemmas.{each_true, has_first, has_later, has_none}
use Rattle.svid_replay.proofs.TestsLemmas.{equal}
use Rattle.svid_replay.proofs.UseLemmas.{use_exact}
use Rattle.svid_replay.proofs.UsesLemmas.{holds-union, no_uses_hold_none, with_holds_one_more}
use Rattle.svid_check.specs.Runs.{Terms}
use Rattle.svid_check.specs.Told.{tell_one}
use Rattle.svid_check.specs.World as check
use Rattle.svid_check.specs.World.{Member, Withdraw, carried, ticked}
use Rattle.svid_check.proofs.EachToldLemmas.{Each, Everywhere, IsAt, IsKept, happens_everywhere, start_everywhere}
use Rattle.svid_check.proofs.MembersLemmas.{carried_within}
use Rattle.svid_log.specs.declared.fate.Fate.{Fate}
use Rattle.svid_log.specs.declared.fate.Fate.TheVariants.{Accepted, First, Expired, TooFarAhead, Withdrawal, Withdrawn, Replayed}
use Rattle.svid_log.specs.Groups as log
use Rattle.svid_log.specs.Steps.{fate_at, is_early}
use Rattle.svid_group.specs.Told.{ToldWereMade, made, made_by}
use Rattle.svid_group.specs.World.{Anew, Aside, Call, Event, Look, Miss, Put, Read, World, aside_of, gain_by, happen, happens, passed, put, read_next, reader_at, start, told_by}

-- N holds of the moment of an event, if it has one, and of the time of a use that is put into the log
abbrev pub IsTimely : (ℕ → Type 0) → Event → Type 0
IsTimely N (Call e) = IsAt N e
IsTimely N (Put u) = N u.at
IsTimely N (Read v now refused) = N now
IsTimely N _ = Unit {0}

-- I holds of each validator, and A of each use of the log
pub record Holds (N : ℕ → Type 0) (A : Use → Type 0) (I : Member → Type 0) (w : World) : Type 0 where
  pub group : Everywhere I w.group
  pub log : (u : Use) → Contains w.log u → A u × N u.at

stands_in : (us : List Use) (k : ℕ) (c : Use) → slice_get us k ≡ Some c → Contains us c
stands_in [] k c at = absurd (none-some c at)
stands_in (u ∷ us) zero c at = subst (Contains (u ∷ us)) (same_Some u c at) (has_first u us)
stands_in (u ∷ us) (suc k) c at = has_later u us c (stands_in us k c at)

gained_only : (fate : Fate) (c u : Use) → gain_by fate c ≡ Some u → c ≡ u
gained_only First c u e = same_Some c u e
gained_only Withdrawal c u e = same_Some c u e
gained_only Accepted c u e = absurd (none-some u e)
gained_only Expired c u e = absurd (none-some u e)
gained_only TooFarAhead c u e = absurd (none-some u e)
gained_only Withdrawn c u e = absurd (none-some u e)
gained_only Replayed c u e = absurd (none-some u e)

module _ (N : ℕ → Type 0) (A : Use → Type 0) (I : Member → Type 0) (kept : IsKept N A I) where
  pub start_holds : Holds N A I start
  start_holds = record { group = start_everywhere N A I kept; log = λ u has. has_none u has }

  passed_is : (far : ℕ) (x : Member) (now : ℕ) (c : Use) → N now → N c.at → I x → I (passed far x now c)
  passed_is far x now c at made is =
      let y = ticked x now in
      let h = kept.ticks x now at is in
      cond_both (is_early y.held far c) y (ticked y c.at) I (λ _. h) (λ _. kept.ticks y c.at made h)

  told_is : (far : ℕ) (x : Member) (a : Aside) (now : ℕ) (refused : Bool) (c : Use) → N now → A c → N c.at → I x → I (told_by far x a now refused c)
  told_is far x a now true c at known made is = passed_is far x now c at made is
  told_is far x a now false c at known made is =
      let fate = fate_at x.held a.uses now far c in
      kept.adds (passed far x now c) (gain_by fate c) (λ u e. subst A (gained_only fate c u e) known) (passed_is far x now c at made is)

  put_holds : (w : World) (v : ℕ) (x : Member) (a : Aside) → Holds N A I w → I x → Holds N A I (put w v x a)
  put_holds w v x a h is = record {
    group = record { members = λ n. cond_both (n == v) x (w.group.members n) I (λ _. is) (λ _. h.group.members n); pool = h.group.pool; saves = h.group.saves };
    log = h.log;
  }

  read_holds : (far : ℕ) (w : World) (v now k : ℕ) (refused : Bool) (o : Option Use) → slice_get w.log k ≡ o → N now → Holds N A I w → Holds N A I (read_next far w v now refused o)
  read_holds far w v now k refused None stands at h = h
  read_holds far w v now k refused (Some c) stands at h =
      let x = w.group.members v in
      let known = h.log c (stands_in w.log k c stands) in
      put_holds w v (told_by far x (w.asides v) now refused c) (aside_of (log.reads far (reader_at w v) now refused c)) h (told_is far x (w.asides v) now refused c at known.0 known.1 (h.group.members v))

  module _ (group : ℕ → Terms) where
    pub happens_holds : (w : World) (e : Event) → IsTimely N e → ((u : Use) → Contains (made_by group w e) u → A u) → Holds N A I w → Holds N A I (happens group w e)
    happens_holds w (Call e) at known h =
        let accepted = check.accepted_by group w.group e in
        let withdrawn = check.withdrawn_by group w.group e in
        record {
          group = happens_everywhere N A I kept group w.group e at (λ u has. known u (Contains-append_left accepted withdrawn u has)) (λ u has. known u (Contains-append_right accepted withdrawn u has)) h.group;
          log = h.log;
        }
    happens_holds w (Put u) at known h = record {
      group = h.group;
      log = λ v has. elim (Contains-push_cases w.log u v has) [ inl before ↦ h.log v before | inr same ↦ subst (λ (c : Use). A c × N c.at) same (known u (has_first u []), at) ];
    }
    happens_holds w (Read v now refused) at known h = read_holds (check.far group v now) w v now (w.asides v).read refused (slice_get w.log (w.asides v).read) refl at h
    happens_holds w (Look v) at known h = put_holds w v (w.group.members v) (aside_of (log.looked (reader_at w v))) h (h.group.members v)
    happens_holds w (Anew v front until) at known h =
        let r = (w.group.members v).renewal in
        let x = check.with_renewal check.new_member r in
        let a = aside_of (log.begins (reader_at w v) (log.reader_behind front until)) in
        cond_both (log.is_gone until front w.log) (put w v x a) w (Holds N A I) (λ _. put_holds w v x a h (kept.renews check.new_member r kept.new)) (λ _. h)
    happens_holds w (Miss v more until) at known h =
        let x = w.group.members v in
        let a = aside_of (log.missed (reader_at w v) more until) in
        cond_both (log.is_gone until more (drop (w.asides v).read w.log)) (put w v x a) w (Holds N A I) (λ _. put_holds w v x a h (h.group.members v)) (λ _. h)

    happen_holds : (w : World) (events : List Event) → AllByRecursion (IsTimely N) events → ((u : Use) → Contains (made group w events) u → A u) → Holds N A I w → Holds N A I (happen group w events)
    happen_holds w [] at known h = h
    happen_holds w (e ∷ events) at known h =
        let next = happens group w e in
        happen_holds next events at.1 (λ u has. known u (Contains-append_right (made_by group w e) (made group next events) u has))
        (happens_holds w e at.0 (λ u has. known u (Contains-append_left (made_by group w e) (made group next events) u has)) h)

-- Each use that is learned.

module _ (P : Use → Type 0) where
  with_each : (s : Uses) (new : Use) → Each P s → P new → Each P (with s new)
  with_each s new each is u has = elim (or_cases (eq_by_cmp use_cmp u new) (holds s u) (sym (with_holds_one_more s new u) ∙ has)) [
    | inl tied ↦ subst P (sym (use_exact u new (equal (use_cmp u new) tied))) is
    | inr held ↦ each u held
  ]

  pub union_each : (s t : Uses) → Each P s → Each P t → Each P (union s t)
  union_each s t each also u has = elim (or_cases (holds t u) (holds s u) (sym (holds-union s t u) ∙ has)) [ inl new ↦ also u new | inr held ↦ each u held ]

  pub gained_each : (x : Member) (added : Option Use) → ((u : Use) → added ≡ Some u → P u) → Each P x.told.uses → Each P (tell_one x.told added).uses
  gained_each x (Some u) is each = with_each x.told.uses u each (is u refl)
  gained_each x None is each = each

  pub none_each : Each P check.new_member.told.uses
  none_each u has = absurd (false≢true (sym (no_uses_hold_none u) ∙ has))

  each_is_kept : IsKept (λ n. Unit {0}) P (λ x. Each P x.told.uses)
  each_is_kept = record {
    within = λ now ahead m h. tt;
    new = none_each;
    ticks = λ x now at each. each;
    adds = gained_each;
    logs = λ x entry each. each;
    renews = λ x renewal each. each;
    joins = λ x maker b at each made. union_each x.told.uses (carried maker.told.uses b) each (λ u has. made u (carried_within maker.told.uses b u has));
  }

any_call : (e : check.Event) → IsAt (λ n. Unit {0}) e
any_call (Withdraw v now key exp refused) = tt
any_call _ = tt

any_moment : (e : Event) → IsTimely (λ n. Unit {0}) e
any_moment (Call e) = any_call e
any_moment _ = tt

pub told_were_made : ToldWereMade
told_were_made group events v u has =
    let P : Use → Type 0 = λ c. Contains (made group start events) c in
    let I : Member → Type 0 = λ x. Each P x.told.uses in
    let kept = each_is_kept P in
    (happen_holds (λ n. Unit {0}) P I kept group start events (each_true (IsTimely (λ n. Unit {0})) any_moment events) (λ c in_list. in_list) (start_holds (λ n. Unit {0}) P I kept)).group.members v u has
