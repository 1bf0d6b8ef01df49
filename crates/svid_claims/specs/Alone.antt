-- A claim that nothing stands against is accepted.
use Rattle.std.specs.Prelude.{◌≡◌, ◌≢◌, ℕ, ◌+◌, ◌<◌, ◌≤◌, true, false, List, length, Option, Some, None}
use Rattle.std.specs.List.{AllByRecursion}
use Rattle.svid_claims.specs.Groups.{Accepts, Answer, End, Entry, Event, Put, Terms, happen, happens, is_used, moment_of, shown, start}
use Rattle.svid_claims.specs.Owners.{withdrawn}

-- under a key stands nothing, or this
abbrev pub IsOpen : Option Entry → Entry → Type 0
IsOpen None e = Unit {0}
IsOpen (Some found) e = found ≡ e

-- A claim is put where its key is open, of a token that does not live too long and that no earlier epoch can have had a claim of. Whenever a member
-- looks at the answer at whose moment the token has not expired, it accepts the token; in a strict group, if the claim is of its life and it knows
-- no live use of the key.
abbrev pub LoneIsAccepted : Type 0
LoneIsAccepted = (t : Terms) (events between : List Event) (v now exp time : ℕ) (key owner : List ℕ)
    → let w = happen t start events in
    let s = w.stores (t.shard key) in
    let e : Entry = record { owner = owner; exp = exp } in
    let a : Answer = record { key = key; found = e; time = shown t.back s time; epoch = s.epoch; deaf = s.deaf } in
    let b = happen t (happens t w (Put key owner exp time)) between in
    let x = b.members v in
    let moment = moment_of (t.ahead v) x now a in
    IsOpen (s.entries key) e → exp ≤ a.time + t.lasts → s.deaf < exp → moment < exp → owner ≢ withdrawn
    → (t.strict ≡ true → (owner ≡ t.owner v x.life exp) × (is_used x.uses key moment ≡ false)) → Accepts t b v now (length w.answers) a

-- an event puts nothing under a key
abbrev pub PutsNoneOf : List ℕ → Event → Type 0
PutsNoneOf key (Put other owner exp time) = other ≢ key
PutsNoneOf key (End s entries deaf) = entries key ≡ None
PutsNoneOf key _ = Unit {0}

-- a key under which nothing was put is open
abbrev pub UnclaimedIsOpen : Type 0
UnclaimedIsOpen = (t : Terms) (events : List Event) (s : ℕ) (key : List ℕ) → AllByRecursion (PutsNoneOf key) events → ((happen t start events).stores s).entries key ≡ None
