-- What is proved of a group that claims tokens at stores, over every list of events.
use Rattle.std.specs.Prelude.{◌≡◌, ◌≢◌, ℕ, ◌+◌, ◌<◌, ◌≤◌, true, List, slice_get, Some}
use Rattle.svid_claims.specs.Groups.{Accepts, Accept, Answer, Event, Terms, happen, happens, moment_of, start}
use Rattle.svid_claims.specs.Owners.{withdrawn}

-- stores keep entries so long past their expiry that no step back of their clocks, and no distance that a member lets a store's time be ahead,
-- makes up for it
abbrev pub HasMargin : Terms → Type 0
HasMargin t = (v : ℕ) → t.ahead v + t.back ≤ t.margin

-- two lives, of one member or of two, claim a token for different owners
abbrev pub HaveOwners : Terms → Type 0
HaveOwners t = (v w life other exp : ℕ) → t.owner v life exp ≡ t.owner w other exp → (v ≡ w) × (life ≡ other)

-- all acceptances of one key and one expiry are of one owner's claim
abbrev pub HasOneOwner : Type 0
HasOneOwner = (t : Terms) (before between : List Event) (v w now later i j : ℕ) (c d : Answer)
    → let a = happen t start before in
    let b = happen t (happens t a (Accept v now i)) between in
    HasMargin t → Accepts t a v now i c → Accepts t b w later j d → c.key ≡ d.key → c.found.exp ≡ d.found.exp → c.found.owner ≡ d.found.owner

-- in a strict group, once a member accepts a token, no member accepts one with its key and its expiry
abbrev pub AcceptedOnce : Type 0
AcceptedOnce = (t : Terms) (before between : List Event) (v w now later i j : ℕ) (c d : Answer)
    → let a = happen t start before in
    let b = happen t (happens t a (Accept v now i)) between in
    t.strict ≡ true → HasMargin t → HaveOwners t → Accepts t a v now i c → Accepts t b w later j d → c.key ≡ d.key → c.found.exp ≢ d.found.exp

-- of two different claims of a key and an epoch that are accepted, at whatever members and in whatever order, the one that the store answered first
-- has expired at the moment of the member that accepts the other one
abbrev pub LaterIsPast : Type 0
LaterIsPast = (t : Terms) (before between : List Event) (v w now later i j : ℕ) (c d : Answer)
    → let a = happen t start before in
    let b = happen t (happens t a (Accept v now i)) between in
    HasMargin t → Accepts t a v now i c → Accepts t b w later j d → c.key ≡ d.key → c.epoch ≡ d.epoch → c.found ≢ d.found
    → (i < j → c.found.exp ≤ moment_of (t.ahead w) (b.members w) later d) × (j < i → d.found.exp ≤ moment_of (t.ahead v) (a.members v) now c)

-- A withdrawal that is kept as long as a token, and that its store answered before the token's time was over there, stands against the token: no
-- member accepts it by an answer of that epoch; nor by one of a later epoch, if the token does not live too long by the time of that answer.
abbrev pub WithdrawnIsRefused : Type 0
WithdrawnIsRefused = (t : Terms) (events : List Event) (v now i j : ℕ) (c d : Answer)
    → let w = happen t start events in
    HasMargin t → slice_get w.answers i ≡ Some c → c.found.owner ≡ withdrawn → c.key ≡ d.key → d.found.exp ≤ c.found.exp → c.time + t.back < d.found.exp + t.margin
    → c.epoch ≤ d.epoch → (c.epoch < d.epoch → d.found.exp ≤ c.time + t.lasts) → Accepts t w v now j d → ⊥

-- whatever is put under the key of an accepted claim, in its epoch and before its time is over there, is answered by that claim: so whoever withdraws
-- the token then hears that it was used
abbrev pub AcceptedIsFound : Type 0
AcceptedIsFound = (t : Terms) (before between : List Event) (v now i j : ℕ) (c d : Answer)
    → let a = happen t start before in
    let b = happen t (happens t a (Accept v now i)) between in
    HasMargin t → Accepts t a v now i c → slice_get b.answers j ≡ Some d → i < j → c.key ≡ d.key → c.epoch ≡ d.epoch → d.time + t.back < c.found.exp + t.margin → c.found ≡ d.found
