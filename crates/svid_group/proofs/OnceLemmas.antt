-- The laws of a log hold in a group with all other events.
use Rattle.std.proofs.Common.{◌≡◌, ◌≢◌, ℕ, ◌<◌, ◌≤◌, false, List, [], Option, refl, sym, ap, ◌∙◌, subst}
use Rattle.std.specs.Prelude.{◌==◌, IsTrue, slice_get}
use Rattle.std.specs.Ordering.{eq_by_cmp, is_eq}
use Rattle.std.proofs.lemmas.Bool.{cond-true, eq-eqb, or_left}
use Rattle.std.proofs.lemmas.Cmp.{tied_itself}
use Rattle.svid_replay.specs.declared.token_use.Use.{Use}
use Rattle.svid_replay.specs.Sets.{holds}
use Rattle.svid_replay.specs.Use.{use_cmp}
use Rattle.svid_replay.specs.Uses.{has_use_of}
use Rattle.svid_replay.proofs.UseLemmas.{use_total}
use Rattle.svid_replay.proofs.UsesLemmas.{with_holds_one_more}
use Rattle.svid_check.specs.Runs.{Terms}
use Rattle.svid_check.specs.World as check
use Rattle.svid_check.specs.World.{Member}
use Rattle.svid_log.specs.declared.fate.Fate.{Fate}
use Rattle.svid_log.specs.Groups as log
use Rattle.svid_log.specs.Once.{AllGone, IsOwnClaim}
use Rattle.svid_log.proofs.FirstsLemmas as firsts
use Rattle.svid_log.proofs.GroupsLemmas as groups
use Rattle.svid_group.specs.Once.{AcceptedIsFirst, AcceptedIsHeld, AcceptedIsUnrefused, AcceptedOnce, LaterInLogIsPast, OneUseOfAKey, OnlyClaimIsAccepted, OwnIsAccepted, PositionIsAcceptedOnce}
use Rattle.svid_group.specs.World.{Accepts, Event, Read, World, as_readers, as_terms, gain_by, happen, happens, passed, read_next, start, told_by}
use Rattle.svid_group.proofs.ReadersLemmas.{Leads, leads_to, read_readers}
use Rattle.svid_group.proofs.StandsLemmas.{happens_whole, is_whole}

-- what is so of the readers of each history is so of the group
module _ (group : ℕ → Terms) (events : List Event) where
  pub history : Leads group start events
  history = leads_to group start events (is_whole group [])

  pub carried : (P : log.World → Type 0) → P (log.happen (as_terms group) log.start history.events) → P (as_readers (happen group start events))
  carried P h = subst P (sym history.leads) h

-- and so with two moments of a history, with a read between
module _ (group : ℕ → Terms) (before between : List Event) (v now : ℕ) where
  abbrev one_world : World
  one_world = happen group start before

  abbrev next_world : World
  next_world = happens group one_world (Read v now false)

  abbrev other_world : World
  other_world = happen group next_world between

  first : Leads group start before
  first = history group before

  more : Leads group next_world between
  more = leads_to group next_world between (happens_whole group one_world (Read v now false) (is_whole group before))

  abbrev one_group : log.World
  one_group = log.happen (as_terms group) log.start first.events

  abbrev other_group : log.World
  other_group = log.happen (as_terms group) (log.happens (as_terms group) one_group (log.Read v now false)) more.events

  other_leads : as_readers other_world ≡ other_group
  other_leads =
      more.leads
      ∙ ap (λ (z : log.World). log.happen (as_terms group) z more.events)
      (read_readers (check.far group v now) one_world v now false (slice_get one_world.log (one_world.asides v).read) ∙ ap (λ (z : log.World). log.happens (as_terms group) z (log.Read v now false)) first.leads)

  both_carried : (P : log.World → log.World → Type 0) → P one_group other_group → P (as_readers one_world) (as_readers other_world)
  both_carried P h = subst (λ (z : log.World). P z (as_readers other_world)) (sym first.leads) (subst (P one_group) (sym other_leads) h)

pub accepted_once : AcceptedOnce
accepted_once group before between v w now later c d ids =
    both_carried group before between v now (λ a b. log.Accepts (as_terms group) a v now c → log.Accepts (as_terms group) b w later d → c.key ≡ d.key → c.exp ≢ d.exp)
    (groups.accepted_once (as_terms group) (first group before between v now).events (more group before between v now).events v w now later c d ids)

pub position_is_accepted_once : PositionIsAcceptedOnce
position_is_accepted_once group before between v w now later c d ids =
    both_carried group before between v now (λ a b. log.Accepts (as_terms group) a v now c → log.Accepts (as_terms group) b w later d → (a.members v).read ≢ (b.members w).read)
    (groups.position_is_accepted_once (as_terms group) (first group before between v now).events (more group before between v now).events v w now later c d ids)

pub later_in_log_is_past : LaterInLogIsPast
later_in_log_is_past group before between v w now later c d =
    both_carried group before between v now (λ a b. log.Accepts (as_terms group) a v now c → log.Accepts (as_terms group) b w later d → c.key ≡ d.key
    → ((a.members v).read < (b.members w).read → c.exp ≤ (log.judges (as_terms group) b w later d).moment)
    × ((b.members w).read < (a.members v).read → d.exp ≤ (log.judges (as_terms group) a v now c).moment))
    (groups.later_in_log_is_past (as_terms group) (first group before between v now).events (more group before between v now).events v w now later c d)

pub accepted_is_first : AcceptedIsFirst
accepted_is_first group events v now c =
    carried group events (λ z. log.Accepts (as_terms group) z v now c
    → ((log.judges (as_terms group) z v now c).moment < c.exp) × AllGone z.log (z.members v).read c.key (log.judges (as_terms group) z v now c).moment)
    (groups.accepted_is_first (as_terms group) (history group events).events v now c)

-- what an acceptance leaves of its validator
accepted_leaves : (group : ℕ → Terms) (w : World) (v now : ℕ) (c : Use) → Accepts group w v now c
    → (happens group w (Read v now false)).group.members v ≡ told_by (check.far group v now) (w.group.members v) (w.asides v) now false c
accepted_leaves group w v now c a =
    let far = check.far group v now in
    let x = w.group.members v in
    ap (λ (o : Option Use). (read_next far w v now false o).group.members v) a.next ∙ cond-true (v == v) (told_by far x (w.asides v) now false c) x (eq-eqb v v refl)

-- the validator has learned the claim
pub told_now_has : (group : ℕ → Terms) (w : World) (v now : ℕ) (c : Use) → Accepts group w v now c → IsTrue (holds (told_by (check.far group v now) (w.group.members v) (w.asides v) now false c).told.uses c)
told_now_has group w v now c a =
    let y = passed (check.far group v now) (w.group.members v) now c in
    subst (λ (fate : Fate). IsTrue (holds (check.gained y (gain_by fate c)).told.uses c)) (sym a.first)
    (with_holds_one_more y.told.uses c c ∙ or_left (eq_by_cmp use_cmp c c) (holds y.told.uses c) (ap is_eq (tied_itself use_total c)))

pub accepted_is_held : AcceptedIsHeld
accepted_is_held group w v now c a = (
  subst (λ (z : log.World). IsTrue (holds (z.members v).held.uses c)) (sym (read_readers (check.far group v now) w v now false (slice_get w.log (w.asides v).read)))
      (groups.accepted_is_held (as_terms group) (as_readers w) v now c a),
  subst (λ (x : Member). IsTrue (holds x.told.uses c)) (sym (accepted_leaves group w v now c a)) (told_now_has group w v now c a),
)

pub accepted_is_unrefused : AcceptedIsUnrefused
accepted_is_unrefused group w v now c a = groups.accepted_is_unrefused (as_terms group) (as_readers w) v now c a

pub own_is_accepted : OwnIsAccepted
own_is_accepted group events v now c =
    carried group events (λ z. IsOwnClaim (as_terms group) z v now c → has_use_of (log.judges (as_terms group) z v now c).uses c.key ≡ false
    → AllGone z.log (z.members v).read c.key (log.judges (as_terms group) z v now c).moment → log.Accepts (as_terms group) z v now c)
    (groups.own_is_accepted (as_terms group) (history group events).events v now c)

pub only_claim_is_accepted : OnlyClaimIsAccepted
only_claim_is_accepted group events v now c adds =
    carried group events (λ z. IsOwnClaim (as_terms group) z v now c
    → AllGone z.log (z.members v).read c.key (log.judges (as_terms group) z v now c).moment → log.Accepts (as_terms group) z v now c)
    (firsts.only_claim_is_accepted (as_terms group) (history group events).events v now c ((history group events).silent c.key adds))

pub one_use_of_a_key : OneUseOfAKey
one_use_of_a_key group events v one other adds =
    carried group events (λ z. IsTrue (holds (z.members v).held.uses one) → IsTrue (holds (z.members v).held.uses other)
    → one.key ≡ other.key → one.withdrawn ≡ false → other.withdrawn ≡ false → one ≡ other)
    (firsts.one_use_of_a_key (as_terms group) (history group events).events v one other ((history group events).silent one.key adds))
