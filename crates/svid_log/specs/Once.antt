-- What we prove of a group that reads one log, over every list of events.
use Rattle.std.specs.Prelude.{◌≡◌, ◌≢◌, ℕ, ◌+◌, ◌<◌, ◌≤◌, false, List, [], ◌∷◌, length, slice_get, Some, IsTrue}
use Rattle.std.specs.List.{AllByRecursion}
use Rattle.svid_replay.specs.declared.token_use.Use.{Use}
use Rattle.svid_replay.specs.Buckets.{raised_to}
use Rattle.svid_replay.specs.Sets.{holds}
use Rattle.svid_replay.specs.Uses.{has_use_of, has_withdrawal_of}
use Rattle.svid_log.specs.Groups.{Accepts, Event, Read, Tell, Terms, World, far, happen, happens, judges, start}
use Rattle.svid_log.specs.Steps.{is_early}

-- members have different validator IDs
abbrev pub HaveIds : (ℕ → Terms) → Type 0
HaveIds group = (v w : ℕ) → (group v).validator_id ≡ (group w).validator_id → v ≡ w

-- the uses of a key before a position of the log have expired by a moment
abbrev pub AllGone : List Use → (index : ℕ) (key : List ℕ) (moment : ℕ) → Type 0
AllGone log index key moment = (j : ℕ) (d : Use) → j < index → slice_get log j ≡ Some d → d.at < d.exp → d.key ≡ key → d.exp ≤ moment

-- whatever happened, an accepted claim is live at its member's moment, and all earlier uses of its key in the log have expired
abbrev pub AcceptedIsFirst : Type 0
AcceptedIsFirst = (group : ℕ → Terms) (events : List Event) (v now : ℕ) (c : Use)
    → let w = happen group start events in
    let moment = (judges group w v now c).moment in
    Accepts group w v now c → (moment < c.exp) × AllGone w.log (w.members v).read c.key moment

-- of two accepted claims of a key, at any members and in any order of events, the first in the log has expired when the other
-- member accepts the second
abbrev pub LaterInLogIsPast : Type 0
LaterInLogIsPast = (group : ℕ → Terms) (before between : List Event) (v w now later : ℕ) (c d : Use)
    → let a = happen group start before in
    let b = happen group (happens group a (Read v now false)) between in
    Accepts group a v now c → Accepts group b w later d → c.key ≡ d.key
    → ((a.members v).read < (b.members w).read → c.exp ≤ (judges group b w later d).moment)
    × ((b.members w).read < (a.members v).read → d.exp ≤ (judges group a v now c).moment)

-- a position of the log is accepted once
abbrev pub PositionIsAcceptedOnce : Type 0
PositionIsAcceptedOnce = (group : ℕ → Terms) (before between : List Event) (v w now later : ℕ) (c d : Use)
    → let a = happen group start before in
    let b = happen group (happens group a (Read v now false)) between in
    HaveIds group → Accepts group a v now c → Accepts group b w later d → (a.members v).read ≢ (b.members w).read

-- once a member accepts a claim, no member accepts one with its key and its expiry: a group accepts a token at most once
abbrev pub AcceptedOnce : Type 0
AcceptedOnce = (group : ℕ → Terms) (before between : List Event) (v w now later : ℕ) (c d : Use)
    → let a = happen group start before in
    let b = happen group (happens group a (Read v now false)) between in
    HaveIds group → Accepts group a v now c → Accepts group b w later d → c.key ≡ d.key → c.exp ≢ d.exp

-- the record has an accepted claim
abbrev pub AcceptedIsHeld : Type 0
AcceptedIsHeld = (group : ℕ → Terms) (w : World) (v now : ℕ) (c : Use)
    → Accepts group w v now c → IsTrue (holds ((happens group w (Read v now false)).members v).held.uses c)

-- nothing refuses an accepted claim, by the moment and the uses by which it is judged: it is live, and its key was neither
-- withdrawn nor used
abbrev pub AcceptedIsUnrefused : Type 0
AcceptedIsUnrefused = (group : ℕ → Terms) (w : World) (v now : ℕ) (c : Use)
    → let y = judges group w v now c in
    Accepts group w v now c → (y.moment < c.exp) × (has_withdrawal_of y.uses c.key ≡ false) × (has_use_of y.uses c.key ≡ false)

-- the next use of the log is a claim that member v made in this life; the member missed nothing that is live, and the claim is
-- neither early nor expired
pub record IsOwnClaim (group : ℕ → Terms) (w : World) (v now : ℕ) (c : Use) : Type 0 where
  pub next : slice_get w.log (w.members v).read ≡ Some c
  pub own : c.validator_id ≡ (group v).validator_id
  pub ready : (w.members v).ready ≤ (w.members v).read
  pub heard : (w.members v).deaf ≤ (judges group w v now c).moment
  pub claims : c.withdrawn ≡ false
  pub sound : c.at < c.exp
  pub timely : is_early (raised_to (w.members v).held now) (far group v now) c ≡ false
  pub live : (judges group w v now c).moment < c.exp

-- a member accepts its own claim where its record does not refuse the key, and all earlier uses of the key in the log have
-- expired
abbrev pub OwnIsAccepted : Type 0
OwnIsAccepted = (group : ℕ → Terms) (events : List Event) (v now : ℕ) (c : Use)
    → let w = happen group start events in
    let y = judges group w v now c in
    IsOwnClaim group w v now c → has_use_of y.uses c.key ≡ false → AllGone w.log (w.members v).read c.key y.moment → Accepts group w v now c

-- the event brings no use of the key from outside the log
abbrev pub TellsNoUseOf : List ℕ → Event → Type 0
TellsNoUseOf key (Tell v b) = (u : Use) → IsTrue (holds b.uses u) → u.key ≡ key → ⊥
TellsNoUseOf key _ = Unit {0}

-- then a member accepts its own claim where all earlier uses of the key in the log have expired
abbrev pub OnlyClaimIsAccepted : Type 0
OnlyClaimIsAccepted = (group : ℕ → Terms) (events : List Event) (v now : ℕ) (c : Use)
    → let w = happen group start events in
    AllByRecursion (TellsNoUseOf c.key) events
    → IsOwnClaim group w v now c → AllGone w.log (w.members v).read c.key (judges group w v now c).moment → Accepts group w v now c

-- then a member's record has at most one use of the key beside withdrawals, the claim that it found first: so no report lists its
-- token as accepted twice
abbrev pub OneUseOfAKey : Type 0
OneUseOfAKey = (group : ℕ → Terms) (events : List Event) (v : ℕ) (one other : Use)
    → let x = (happen group start events).members v in
    AllByRecursion (TellsNoUseOf one.key) events → IsTrue (holds x.held.uses one) → IsTrue (holds x.held.uses other)
    → one.key ≡ other.key → one.withdrawn ≡ false → other.withdrawn ≡ false → one ≡ other
