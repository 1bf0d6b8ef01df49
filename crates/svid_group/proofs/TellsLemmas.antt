-- What a read of the log tells a validator.
use Rattle.std.proofs.Common.{◌≡◌, ◌⊎◌, ℕ, ◌<◌, Bool, true, false, ◌&&◌, nat_lt, List, IsTrue, Option, Some, refl, sym, ap, ◌∙◌, subst, inl, inr, if◌then◌else◌}
use Rattle.std.specs.Prelude.{◌==◌, slice_get}
use Rattle.std.specs.Ordering.{eq_by_cmp, is_eq}
use Rattle.std.proofs.lemmas.Bool.{and_from, and_parts, cases_lt, cond-true, eq-eqb, false≢true, lt-ltb, ltb-true, or_cases, or_left}
use Rattle.std.proofs.lemmas.Cmp.{tied_itself}
use Rattle.svid_replay.specs.declared.token_use.Use.{Use}
use Rattle.svid_replay.specs.Buckets.{raised_to}
use Rattle.svid_replay.specs.Records.{State}
use Rattle.svid_replay.specs.Sets.{holds, with}
use Rattle.svid_replay.specs.Use.{use_cmp}
use Rattle.svid_replay.specs.Uses.{Uses, has_use_of, has_withdrawal_of, live}
use Rattle.svid_replay.proofs.UseLemmas.{use_total}
use Rattle.svid_replay.proofs.UsesLemmas.{holds-live, with_holds_one_more}
use Rattle.svid_check.specs.Runs.{Terms}
use Rattle.svid_check.specs.Told.{record_of, tell_now}
use Rattle.svid_check.specs.World as check
use Rattle.svid_check.specs.World.{Member, gained, ticked}
use Rattle.svid_check.proofs.RunsLemmas.{told_now}
use Rattle.svid_log.specs.declared.fate.Fate.{Fate}
use Rattle.svid_log.specs.declared.fate.Fate.TheVariants.{Accepted, First, Expired, TooFarAhead, Withdrawal, Withdrawn, Replayed}
use Rattle.svid_log.specs.Groups as log
use Rattle.svid_log.specs.Steps.{counts, fate_at, fate_by, is_early}
use Rattle.svid_log.proofs.GroupsLemmas as groups
use Rattle.svid_log.proofs.GroupsLemmas.{Stands, none_of_key, not_live}
use Rattle.svid_log.proofs.StepsLemmas.{counts_from, first_by, first_from, held_is_used, live_is_held, live_is_live, same_use, unused_is_not_withdrawn, withdrawal_by}
use Rattle.svid_group.specs.Tells.{IsToldGone, ReadsTellFirstClaims, ReadsTellNothingElse, ReadsTellWithdrawals, ReadsTimely, told_after}
use Rattle.svid_group.specs.World.{Event, Read, World, as_terms, gain_by, happen, happens, judges, passed, read_next, start, told_by}
use Rattle.svid_group.proofs.OnceLemmas.{carried, history}
use Rattle.svid_group.proofs.ToldLemmas.{records_are_told}

-- a member that learned a time, and then another unless a use is early, is at the state that a reader reaches; its record is what it has learned, and
-- it has learned no use
passed_by : (early : Bool) (x : Member) (now at : ℕ) → x.held ≡ record_of x.told
    → let z = if early then ticked x now else ticked (ticked x now) at in
    (z.held ≡ (if early then raised_to x.held now else raised_to (raised_to x.held now) at)) × (z.held ≡ record_of z.told) × (z.told.uses ≡ x.told.uses)
passed_by true x now at is = (refl, sym (told_now x.told x.held now (sym is)), refl)
passed_by false x now at is =
    (refl, sym (told_now (tell_now x.told now) (raised_to x.held now) at (told_now x.told x.held now (sym is))), refl)

-- how a state relates to a use, by what was learned
module _ (group : ℕ → Terms) (events : List Event) (v now : ℕ) (c : Use) where
  abbrev w : World
  w = happen group start events

  abbrev x : Member
  x = w.group.members v

  abbrev far : ℕ
  far = check.far group v now

  abbrev z : Member
  z = passed far x now c

  abbrev y : State
  y = judges group w v now c

  passed_is : (z.held ≡ y) × (z.held ≡ record_of z.told) × (z.told.uses ≡ x.told.uses)
  passed_is = passed_by (is_early (ticked x now).held far c) x now c.at (records_are_told group events v)

  -- the uses at which it judges are those that were learned and are live
  judged_holds : (u : Use) → holds y.uses u ≡ (nat_lt y.moment u.exp && holds x.told.uses u)
  judged_holds u =
      let is : y ≡ record_of z.told = sym passed_is.0 ∙ passed_is.1 in
      ap (λ (s : State). holds s.uses u) is ∙ holds-live z.told.uses z.told.greatest u
      ∙ ap (λ (t : Uses). nat_lt z.told.greatest u.exp && holds t u) passed_is.2
      ∙ ap (λ (s : State). nat_lt s.moment u.exp && holds x.told.uses u) (sym is)

  -- where all told uses of a key have expired, none is among them
  gone_is_unused : IsToldGone x.told c.key y.moment → has_use_of y.uses c.key ≡ false
  gone_is_unused gone =
      none_of_key y.uses c.key (λ u h same.
      let parts = and_parts (nat_lt y.moment u.exp) (holds x.told.uses u) (sym (judged_holds u) ∙ h) in
      not_live y.moment u.exp (ltb-true y.moment u.exp parts.0) (gone u parts.1 same))

  -- and the other way round
  unused_is_gone : has_use_of y.uses c.key ≡ false → IsToldGone x.told c.key y.moment
  unused_is_gone unused u told same = elim (cases_lt y.moment u.exp) [
    | inl later ↦ absurd (false≢true (sym unused ∙ held_is_used y.uses u c.key (judged_holds u ∙ and_from (nat_lt y.moment u.exp) (holds x.told.uses u) (lt-ltb y.moment u.exp later) told) same))
    | inr past ↦ past
  ]

  -- everything learned, after a read
  read_leaves : slice_get w.log (w.asides v).read ≡ Some c → (happens group w (Read v now false)).group.members v ≡ told_by far x (w.asides v) now false c
  read_leaves next =
      ap (λ (o : Option Use). (read_next far w v now false o).group.members v) next ∙ cond-true (v == v) (told_by far x (w.asides v) now false c) x (eq-eqb v v refl)

  -- a fate that is gained tells the use
  gained_tells : (fate : Fate) → gain_by fate c ≡ Some c → fate_at x.held (w.asides v).uses now far c ≡ fate → slice_get w.log (w.asides v).read ≡ Some c
      → IsTrue (holds (told_after group w v now).uses c)
  gained_tells fate gains is next =
      subst (λ (m : Member). IsTrue (holds m.told.uses c)) (sym (read_leaves next))
      (subst (λ (o : Option Use). IsTrue (holds (gained z o).told.uses c)) (sym (ap (λ f. gain_by f c) is ∙ gains))
      (with_holds_one_more z.told.uses c c ∙ or_left (eq_by_cmp use_cmp c c) (holds z.told.uses c) (ap is_eq (tied_itself use_total c))))

  -- what stands beside the record stands in front of the use in the log
  beside_stands : (u : Use) → IsTrue (holds (w.asides v).uses u) → Stands w.log (w.asides v).read u
  beside_stands =
      carried group events (λ (g : log.World). (u : Use) → IsTrue (holds (g.members v).beside u) → Stands g.log (g.members v).read u)
      (((groups.is_sound (as_terms group) (history group events).events).members v).from_log)

withdrawal_from : (n e s d u b : Bool) → n ≡ true → e ≡ false → s ≡ true → fate_by n e s d u b ≡ Withdrawal
withdrawal_from n e s d u b hn he hs = rw hn (rw he (rw hs refl))

pub reads_tell_withdrawals : ReadsTellWithdrawals
reads_tell_withdrawals group events v now c is withdrawn =
    let w = happen group start events in
    let y = judges group w v now c in
    let x = w.group.members v in
    gained_tells group events v now c Withdrawal refl
    (withdrawal_from (counts y.moment c) (is_early (raised_to x.held now) (check.far group v now) c) c.withdrawn (has_withdrawal_of y.uses c.key) (has_use_of y.uses c.key) (has_use_of (live (w.asides v).uses y.moment) c.key)
    (counts_from y.moment c is.live is.sound) is.timely withdrawn)
    is.next

pub reads_tell_first_claims : ReadsTellFirstClaims
reads_tell_first_claims group events v now c is claims told alone =
    let w = happen group start events in
    let y = judges group w v now c in
    let x = w.group.members v in
    let unused = gone_is_unused group events v now c told in
    gained_tells group events v now c First refl
    (first_from (counts y.moment c) (is_early (raised_to x.held now) (check.far group v now) c) c.withdrawn (has_withdrawal_of y.uses c.key) (has_use_of y.uses c.key) (has_use_of (live (w.asides v).uses y.moment) c.key)
    (counts_from y.moment c is.live is.sound) is.timely claims (unused_is_not_withdrawn y.uses c.key unused) unused
    (none_of_key (live (w.asides v).uses y.moment) c.key (λ u h same.
    let s = beside_stands group events v now c u (live_is_held (w.asides v).uses y.moment u h) in
    not_live y.moment u.exp (live_is_live (w.asides v).uses y.moment u h) (alone s.position u s.before s.stands s.sound same))))
    is.next

-- a use that counts is live, and was made before it expires
counted : (moment : ℕ) (c : Use) → counts moment c ≡ true → (moment < c.exp) × (c.at < c.exp)
counted moment c h =
    let parts = and_parts (nat_lt moment c.exp) (nat_lt c.at c.exp) h in
    (ltb-true moment c.exp parts.0, ltb-true c.at c.exp parts.1)

-- what a set with one use more holds
one_more : (s : Uses) (c u : Use) (before : Uses) → s ≡ before → IsTrue (holds (with s c) u) → IsTrue (holds before u) ⊎ (u ≡ c)
one_more s c u before same h = elim (or_cases (eq_by_cmp use_cmp u c) (holds s u) (sym (with_holds_one_more s c u) ∙ h)) [
  | inl it ↦ inr (same_use u c it)
  | inr held ↦ inl (subst (λ (t : Uses). IsTrue (holds t u)) same held)
]

module _ (group : ℕ → Terms) (events : List Event) (v now : ℕ) (c u : Use) (next : slice_get (happen group start events).log ((happen group start events).asides v).read ≡ Some c) where
  abbrev world : World
  world = happen group start events

  abbrev member : Member
  member = world.group.members v

  abbrev at_judge : State
  at_judge = judges group world v now c

  abbrev early : Bool
  early = is_early (raised_to member.held now) (check.far group v now) c

  abbrev beside : Uses
  beside = live (world.asides v).uses at_judge.moment

  abbrev Tells : Type 0
  Tells = IsTrue (holds member.told.uses u) ⊎ ((u ≡ c) × ReadsTimely group world v now c × ((c.withdrawn ≡ true) ⊎ IsToldGone member.told c.key at_judge.moment))

  timely : counts at_judge.moment c ≡ true → early ≡ false → ReadsTimely group world v now c
  timely counts_it in_time =
      let both = counted at_judge.moment c counts_it in
      record { next = next; timely = in_time; sound = both.1; live = both.0 }

  before : IsTrue (holds (passed (check.far group v now) member now c).told.uses u) → Tells
  before h = inl (subst (λ (t : Uses). IsTrue (holds t u)) (passed_is group events v now c).2 h)

  only_by : (fate : Fate) → fate_at member.held (world.asides v).uses now (check.far group v now) c ≡ fate
      → IsTrue (holds (gained (passed (check.far group v now) member now c) (gain_by fate c)).told.uses u) → Tells
  only_by First is h =
      let facts = first_by (counts at_judge.moment c) early c.withdrawn (has_withdrawal_of at_judge.uses c.key) (has_use_of at_judge.uses c.key) (has_use_of beside c.key) is in
      elim (one_more (passed (check.far group v now) member now c).told.uses c u member.told.uses (passed_is group events v now c).2 h) [
        | inl had ↦ inl had
        | inr same ↦ inr (same, timely facts.0 facts.1, inr (unused_is_gone group events v now c facts.4))
      ]
  only_by Withdrawal is h =
      let facts = withdrawal_by (counts at_judge.moment c) early c.withdrawn (has_withdrawal_of at_judge.uses c.key) (has_use_of at_judge.uses c.key) (has_use_of beside c.key) is in
      elim (one_more (passed (check.far group v now) member now c).told.uses c u member.told.uses (passed_is group events v now c).2 h) [
        | inl had ↦ inl had
        | inr same ↦ inr (same, timely facts.0 facts.1, inl facts.2)
      ]
  only_by Accepted is h = before h
  only_by Expired is h = before h
  only_by TooFarAhead is h = before h
  only_by Withdrawn is h = before h
  only_by Replayed is h = before h

pub reads_tell_nothing_else : ReadsTellNothingElse
reads_tell_nothing_else group events v now c u next h =
    let w = happen group start events in
    only_by group events v now c u next (fate_at (w.group.members v).held (w.asides v).uses now (check.far group v now) c) refl
    (subst (λ (m : Member). IsTrue (holds m.told.uses u)) (read_leaves group events v now c next) h)
