-- What is proved of the log of such a group, over every list of events.
use Rattle.std.specs.Prelude.{◌≡◌, ◌≢◌, ℕ, ◌<◌, ◌≤◌, false, List, [], ◌∷◌, IsTrue}
use Rattle.svid_replay.specs.declared.token_use.Use.{Use}
use Rattle.svid_replay.specs.Sets.{holds}
use Rattle.svid_replay.specs.Uses.{has_use_of, has_withdrawal_of}
use Rattle.svid_check.specs.Runs.{Terms}
use Rattle.svid_check.specs.World as check
use Rattle.svid_log.specs.Once.{AllGone, HaveIds, IsOwnClaim}
use Rattle.svid_group.specs.World.{Accepts, Call, Event, Read, World, as_readers, as_terms, happen, happens, judges, start}

-- once a validator accepts a claim, none accepts one with its key and its expiry: a group accepts a token at most once
abbrev pub AcceptedOnce : Type 0
AcceptedOnce = (group : ℕ → Terms) (before between : List Event) (v w now later : ℕ) (c d : Use)
    → let a = happen group start before in
    let b = happen group (happens group a (Read v now false)) between in
    HaveIds (as_terms group) → Accepts group a v now c → Accepts group b w later d → c.key ≡ d.key → c.exp ≢ d.exp

-- a validator ID of the log is accepted once
abbrev pub PositionIsAcceptedOnce : Type 0
PositionIsAcceptedOnce = (group : ℕ → Terms) (before between : List Event) (v w now later : ℕ) (c d : Use)
    → let a = happen group start before in
    let b = happen group (happens group a (Read v now false)) between in
    HaveIds (as_terms group) → Accepts group a v now c → Accepts group b w later d → (a.asides v).read ≢ (b.asides w).read

-- of two accepted claims of a key, the one that stands first in the log has expired at the moment of the validator that accepts the other one
abbrev pub LaterInLogIsPast : Type 0
LaterInLogIsPast = (group : ℕ → Terms) (before between : List Event) (v w now later : ℕ) (c d : Use)
    → let a = happen group start before in
    let b = happen group (happens group a (Read v now false)) between in
    Accepts group a v now c → Accepts group b w later d → c.key ≡ d.key
    → ((a.asides v).read < (b.asides w).read → c.exp ≤ (judges group b w later d).moment)
    × ((b.asides w).read < (a.asides v).read → d.exp ≤ (judges group a v now c).moment)

-- an accepted claim is live at its validator's moment, and all uses of its key in front of it in the log have expired
abbrev pub AcceptedIsFirst : Type 0
AcceptedIsFirst = (group : ℕ → Terms) (events : List Event) (v now : ℕ) (c : Use)
    → let w = happen group start events in
    let moment = (judges group w v now c).moment in
    Accepts group w v now c → (moment < c.exp) × AllGone w.log (w.asides v).read c.key moment

-- an accepted claim is a use of the record, and the validator has learned it
abbrev pub AcceptedIsHeld : Type 0
AcceptedIsHeld = (group : ℕ → Terms) (w : World) (v now : ℕ) (c : Use)
    → let x = (happens group w (Read v now false)).group.members v in
    Accepts group w v now c → IsTrue (holds x.held.uses c) × IsTrue (holds x.told.uses c)

-- nothing refuses an accepted claim, at the moment and by the uses at which it is judged: it is live, and its key was neither withdrawn nor used
abbrev pub AcceptedIsUnrefused : Type 0
AcceptedIsUnrefused = (group : ℕ → Terms) (w : World) (v now : ℕ) (c : Use)
    → let y = judges group w v now c in
    Accepts group w v now c → (y.moment < c.exp) × (has_withdrawal_of y.uses c.key ≡ false) × (has_use_of y.uses c.key ≡ false)

-- a validator accepts its own claim where its record does not refuse the key, and all uses of the key in front of it have expired
abbrev pub OwnIsAccepted : Type 0
OwnIsAccepted = (group : ℕ → Terms) (events : List Event) (v now : ℕ) (c : Use)
    → let w = happen group start events in
    let y = judges group w v now c in
    IsOwnClaim (as_terms group) (as_readers w) v now c → has_use_of y.uses c.key ≡ false → AllGone w.log (w.asides v).read c.key y.moment → Accepts group w v now c

-- outside of the log an event adds no use of a key to any record, but by a restart, which puts back what was there
abbrev pub AddsNoUseOf : (ℕ → Terms) → List ℕ → World → Event → Type 0
AddsNoUseOf group key w (Call (check.Restart v k)) = Unit {0}
AddsNoUseOf group key w (Call event) = (v : ℕ) (u : Use) → IsTrue (holds ((check.happens group w.group event).members v).held.uses u) → u.key ≡ key → IsTrue (holds (w.group.members v).held.uses u)
AddsNoUseOf group key w _ = Unit {0}

-- nor does any of a list of events
abbrev pub AddNoUseOf : (ℕ → Terms) → List ℕ → World → List Event → Type 0
AddNoUseOf group key w [] = Unit {0}
AddNoUseOf group key w (event ∷ events) = AddsNoUseOf group key w event × AddNoUseOf group key (happens group w event) events

-- there a validator accepts its own claim where all uses of the key in front of it have expired
abbrev pub OnlyClaimIsAccepted : Type 0
OnlyClaimIsAccepted = (group : ℕ → Terms) (events : List Event) (v now : ℕ) (c : Use)
    → let w = happen group start events in
    AddNoUseOf group c.key start events
    → IsOwnClaim (as_terms group) (as_readers w) v now c → AllGone w.log (w.asides v).read c.key (judges group w v now c).moment → Accepts group w v now c

-- and there a record has at most one use of the key beside withdrawals, the claim that its validator found first: so no report lists its token
abbrev pub OneUseOfAKey : Type 0
OneUseOfAKey = (group : ℕ → Terms) (events : List Event) (v : ℕ) (one other : Use)
    → let x = (happen group start events).group.members v in
    AddNoUseOf group one.key start events → IsTrue (holds x.held.uses one) → IsTrue (holds x.held.uses other)
    → one.key ≡ other.key → one.withdrawn ≡ false → other.withdrawn ≡ false → one ≡ other
