-- A history in which each kind of event happens.
use Rattle.std.proofs.Common.{◌≡◌, ◌≢◌, ◌<◌, ◌≤◌, ◌+◌, ℕ, max, true, false, not, nat_lt, ◌&&◌, ◌||◌, List, [], ◌∷◌, map, Option, Some, None, refl, sym, ap, ◌∙◌, subst, inl, inr, arith}
use Rattle.std.specs.Prelude.{◌==◌, IsTrue, drop, slice_get}
use Rattle.std.specs.List.{AllByRecursion}
use Rattle.std.proofs.lemmas.Bool.{and_left, and_parts, cond-false, cond-true, cond_both, le-ltb, ne_eqb, or_cases, true≢false}
use Rattle.svid_replay.specs.declared.token_use.Use.{Use}
use Rattle.svid_replay.specs.Buckets.{raised_to}
use Rattle.svid_replay.specs.Records.{State, state_of}
use Rattle.svid_replay.specs.Sets.{holds}
use Rattle.svid_replay.specs.Uses.{has_use_of, has_withdrawal_of, live, no_uses}
use Rattle.svid_replay.proofs.RecordsLemmas.{holds-join, moment-join}
use Rattle.svid_replay.proofs.UsesLemmas.{no_uses_hold_none}
use Rattle.svid_check.specs.declared.accepted.Accepted.{Accepted}
use Rattle.svid_check.specs.Forgetful.{AcceptsNew}
use Rattle.svid_check.specs.History as check_history
use Rattle.svid_check.specs.Lawful as verdicts
use Rattle.svid_check.specs.Runs.{Terms}
use Rattle.svid_check.specs.Setting.{Renewal}
use Rattle.svid_check.specs.World as check
use Rattle.svid_check.specs.World.{Answer, Check, Member, OldSend, Piece, Renew, Restart, Save, Saved, Send, Sum, Take, Tick, Withdraw, new_member, ticked}
use Rattle.svid_check.proofs.AnswersLemmas.{accepted_is}
use Rattle.svid_check.proofs.HistoryLemmas.{every_kind_happens as every_call_happens}
use Rattle.svid_check.proofs.LawfulLemmas.{alive, is_accepted, is_used, made_now}
use Rattle.svid_check.proofs.IndexesLemmas.{put_own}
use Rattle.svid_log.specs.declared.fate.Fate.TheVariants.{First}
use Rattle.svid_log.specs.Groups as log
use Rattle.svid_log.specs.Steps.{counts, fate_at, is_early, reached}
use Rattle.svid_log.proofs.GroupsLemmas.{none_of_key}
use Rattle.svid_log.proofs.StepsLemmas.{counts_from, first_from, live_is_held, unused_is_not_withdrawn}
use Rattle.svid_group.specs.History.{AllHappened, EveryKindHappens, OwnClaimIsAccepted, behind, judge_and_put}
use Rattle.svid_group.specs.World.{Accepts, Anew, Aside, Call, Event, Look, Miss, Read, World, aside_of, asides_after, happen, happens, put, put_aside, put_back, read_next, reader, reader_at, start, told_by}
use Rattle.svid_group.proofs.ChangesLemmas.{event_changes, who}
use Rattle.svid_group.proofs.OnceLemmas.{told_now_has}

-- A new validator accepts a claim.

raised_at : (x : State) (moment : ℕ) → (raised_to x moment).moment ≡ max x.moment moment
raised_at x moment = moment-join x (state_of moment [])

raised_none : (x : State) (moment : ℕ) → ((u : Use) → IsTrue (holds x.uses u) → ⊥) → (u : Use) → IsTrue (holds (raised_to x moment).uses u) → ⊥
raised_none x moment none u h =
    elim (or_cases (holds (state_of moment []).uses u) (holds x.uses u)
    ((and_parts (nat_lt (max x.moment moment) u.exp) (holds (state_of moment []).uses u || holds x.uses u) (sym (holds-join x (state_of moment []) u) ∙ h)).1)) [
      | inl a ↦ true≢false (sym a ∙ no_uses_hold_none u)
      | inr a ↦ none u a
    ]

-- a claim that was just made is the first of its token to a record that has nothing
abbrev new_at : ℕ → State
new_at now = raised_to new_member.held now

pub record IsNewClaim (now : ℕ) (c : Use) : Type 0 where
  pub at : c.at ≡ (new_at now).moment
  pub live : (new_at now).moment < c.exp
  pub claims : c.withdrawn ≡ false

module _ (now far : ℕ) (c : Use) (h : IsNewClaim now c) where
  abbrev later : State
  later = raised_to (new_at now) now

  timely : is_early later far c ≡ false
  timely =
      let m = raised_at (new_at now) now in
      and_left (nat_lt later.moment c.at) (nat_lt far c.at) (le-ltb later.moment c.at (omega (arith, m, h.at)))

  at_claim : reached (new_at now) now far c ≡ raised_to later c.at
  at_claim = cond-false (is_early later far c) later (raised_to later c.at) timely

  at_moment : (reached (new_at now) now far c).moment < c.exp
  at_moment =
      let one = raised_at new_member.held now in
      let two = raised_at (new_at now) now in
      let three = raised_at later c.at in
      let same = ap (λ (x : State). x.moment) at_claim in
      omega (arith, one, two, three, same, h.at, h.live)

  has_none : (u : Use) → IsTrue (holds (reached (new_at now) now far c).uses u) → ⊥
  has_none u held =
      raised_none later c.at (raised_none (new_at now) now (raised_none new_member.held now (λ v a. true≢false (sym a ∙ no_uses_hold_none v)))) u
      (subst (λ (x : State). IsTrue (holds x.uses u)) at_claim held)

  new_is_first : fate_at (new_at now) no_uses now far c ≡ First
  new_is_first =
      let y = reached (new_at now) now far c in
      let unused = none_of_key y.uses c.key (λ u held same. has_none u held) in
      first_from (counts y.moment c) (is_early later far c) c.withdrawn (has_withdrawal_of y.uses c.key) (has_use_of y.uses c.key) (has_use_of (live no_uses y.moment) c.key)
      (counts_from y.moment c at_moment (subst (λ n. n < c.exp) (sym h.at) h.live)) timely h.claims (unused_is_not_withdrawn y.uses c.key unused) unused
      (none_of_key (live no_uses y.moment) c.key (λ u held same. true≢false (sym (live_is_held no_uses y.moment u held) ∙ no_uses_hold_none u)))

-- an acceptance by a new validator is such a claim
new_claim : (t : Terms) (now : ℕ) (token : List ℕ) (a : Accepted) → AcceptsNew t now token a → IsNewClaim now a.used × (a.used.validator_id ≡ t.setting.validator_id)
new_claim t now token a is =
    let x = new_at now in
    let accepts : verdicts.Accepts t.setting x.moment x.uses token a.used = accepted_is t.setting x token false a is in (
      record {
        at = made_now t.setting x.moment x.uses token a.used accepts;
        live = alive t.setting x.moment x.uses token a.used accepts;
        claims = is_used t.setting x.moment x.uses token a.used accepts;
      },
      sym (ap (λ (u : Use). u.validator_id) (is_accepted t.setting x.moment x.uses token a.used accepts).is_used),
    )

module _ (group : ℕ → Terms) where
  new_accepts : (w : World) (v now : ℕ) (c : Use) → IsNewClaim now c → c.validator_id ≡ (group v).setting.validator_id → w.log ≡ c ∷ [] → w.asides v ≡ aside_of log.new_reader
      → (w.group.members v).held ≡ new_at now → Accepts group w v now c
  new_accepts w v now c h own log_is aside held = record {
    next = ap (λ (l : List Use). slice_get l (w.asides v).read) log_is ∙ ap (λ (a : Aside). slice_get (c ∷ []) a.read) aside;
    own = own;
    ready = subst (λ (a : Aside). a.ready ≤ a.read) (sym aside) (none_first 0);
    heard = subst (λ (a : Aside). a.deaf ≤ (reached (w.group.members v).held now (check.far group v now) c).moment) (sym aside) (none_first (reached (w.group.members v).held now (check.far group v now) c).moment);
    first = ap (λ (x : State). fate_at x (w.asides v).uses now (check.far group v now) c) held
        ∙ (ap (λ (a : Aside). fate_at (new_at now) a.uses now (check.far group v now) c) aside ∙ new_is_first now (check.far group v now) c h);
  }
    where
      none_first : (n : ℕ) → 0 ≤ n
      none_first n = omega arith

pub own_claim_is_accepted : OwnClaimIsAccepted
own_claim_is_accepted group v now token a is =
    let c = new_claim (group v) now token a is in
    new_accepts group (happen group start (judge_and_put v now a.used)) v now a.used c.0 c.1 refl refl (ap (λ (m : Member). m.held) (put_own check.start v (ticked new_member now)))

-- Each kind of event.

back_stays : (w : World) (v n : ℕ) (o : Option Saved) (p : Option Aside) → n ≢ v → put_back w v o p n ≡ w.asides n
back_stays w v n None p d = refl
back_stays w v n (Some s) None d = refl
back_stays w v n (Some s) (Some a) d =
    let b = aside_of (log.begins (reader_at w v) (reader s.was a)) in
    cond_both (s.owner == v) (put_aside w.asides v b) w.asides (λ (f : ℕ → Aside). f n ≡ w.asides n) (λ _. cond-false (n == v) b (w.asides n) (ne_eqb n v d)) (λ _. refl)

aside_stays : (w : World) (n : ℕ) (e : check.Event) → n ≢ who e → asides_after w e n ≡ w.asides n
aside_stays w n (Restart v k) d = back_stays w v n (slice_get w.group.saves k) (slice_get w.saved k) d
aside_stays w n _ d = refl

-- who has no event is as before
record IsAsBefore (w z : World) (n : ℕ) : Type 0 where
  member : z.group.members n ≡ w.group.members n
  aside : z.asides n ≡ w.asides n

module _ (group : ℕ → Terms) where
  others_stay : (n : ℕ) (es : List check.Event) (w : World) → AllByRecursion (λ e. n ≢ who e) es → IsAsBefore w (happen group w (map Call es)) n
  others_stay n [] w d = record { member = refl; aside = refl }
  others_stay n (e ∷ es) w d =
      let one = event_changes group w.group e in
      let more = others_stay n es (happens group w (Call e)) d.1 in
      record { member = more.member ∙ one.others n d.0; aside = more.aside ∙ aside_stays w n e d.0 }

far_from_both : (n : ℕ) → 1 < n → (n ≢ 0) × (n ≢ 1)
far_from_both n lt = (λ e. let f : n ≡ 0 = e in omega (arith, f, lt), λ e. let f : n ≡ 1 = e in omega (arith, f, lt))

module _ (t : Terms) (now : ℕ) (token other : List ℕ) (first second : Accepted) (key : List ℕ) (exp : ℕ) (renewal : Renewal) where
  abbrev group : ℕ → Terms
  group v = t

  abbrev c : Use
  c = second.used

  abbrev called : World
  called = happen group start (map Call (check_history.every_kind now token key exp renewal))

  quiet : (n : ℕ) → 1 < n → IsAsBefore start called n
  quiet n lt =
      let d = far_from_both n lt in
      others_stay group n (check_history.every_kind now token key exp renewal) start (d.0, (d.1, (d.1, (d.0, (d.0, (d.1, (d.1, (d.0, (d.1, (d.1, (d.1, (d.1, tt))))))))))))

  abbrev judged : World
  judged = happen group called (judge_and_put 2 now c)

  accepts : AcceptsNew t now other second → Accepts group judged 2 now c
  accepts is =
      let n = new_claim t now other second is in
      let q = quiet 2 (omega arith) in
      new_accepts group judged 2 now c n.0 n.1 refl q.aside (ap (λ (m : Member). (ticked m now).held) q.member)

  abbrev far : ℕ
  far = check.far group 2 now

  abbrev reads : World
  reads = put judged 2 (told_by far (judged.group.members 2) (judged.asides 2) now false c) (aside_of (log.reads far (reader_at judged 2) now false c))

  read_is : AcceptsNew t now other second → happens group judged (Read 2 now false) ≡ reads
  read_is is = ap (λ (o : Option Use). read_next far judged 2 now false o) (accepts is).next

  abbrev looks : World
  looks = happens group reads (Look 2)

  gone : log.is_gone c.exp 1 (c ∷ []) ≡ true
  gone = ap (λ b. not b && true) (le-ltb c.exp c.exp (same c.exp))
    where
      same : (n : ℕ) → n ≤ n
      same n = omega arith

  abbrev misses : World
  misses = put looks 3 (looks.group.members 3) (aside_of (log.missed (reader_at looks 3) 1 c.exp))

  miss_is : happens group looks (Miss 3 1 c.exp) ≡ misses
  miss_is =
      cond-true (log.is_gone c.exp 1 (drop (looks.asides 3).read (c ∷ []))) misses looks
      (ap (λ (a : Aside). log.is_gone c.exp 1 (drop a.read (c ∷ []))) (quiet 3 (omega arith)).aside ∙ gone)

  abbrev begins : World
  begins = put misses 4 (check.with_renewal new_member (misses.group.members 4).renewal) (aside_of (log.begins (reader_at misses 4) (log.reader_behind 1 c.exp)))

  anew_is : happens group misses (Anew 4 1 c.exp) ≡ begins
  anew_is = cond-true (log.is_gone c.exp 1 (c ∷ [])) begins misses gone

  ends : AcceptsNew t now token first → AcceptsNew t now other second → now < exp → AllHappened t now first key exp renewal c begins
  ends is also lives =
      let h = every_call_happens t now token first key exp renewal is lives in
      record {
        group = record { accepted = h.accepted; withdrawn = h.withdrawn; taken = h.taken; posted = h.posted; saved = h.saved; put_back = h.put_back; renewed = h.renewed };
        log = refl;
        read = (ap (λ (a : Aside). a.read + 1) (quiet 2 (omega arith)).aside, told);
        missed = (ap (λ (a : Aside). a.read + 1) (quiet 3 (omega arith)).aside, ap (λ (a : Aside). max a.deaf c.exp) (quiet 3 (omega arith)).aside ∙ most c.exp);
        begun = (refl, refl);
      }
    where
      most : (n : ℕ) → max 0 n ≡ n
      most n = omega arith

      told : IsTrue (holds (begins.group.members 2).told.uses c)
      told = told_now_has group judged 2 now c (accepts also)

  abbrev Ends : List Event → World → Type 0
  Ends events w = AllHappened t now first key exp renewal c (happen group w events)

  happens_all : AcceptsNew t now token first → AcceptsNew t now other second → now < exp → Ends (behind now c) judged
  happens_all is also lives =
      subst (Ends (Look 2 ∷ Miss 3 1 c.exp ∷ Anew 4 1 c.exp ∷ [])) (sym (read_is also))
      (subst (Ends (Anew 4 1 c.exp ∷ [])) (sym miss_is) (subst (Ends []) (sym anew_is) (ends is also lives)))

pub every_kind_happens : EveryKindHappens
every_kind_happens t now token other first second key exp renewal is also lives =
    (accepts t now token other first second key exp renewal also, happens_all t now token other first second key exp renewal is also lives)
