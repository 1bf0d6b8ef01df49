-- Owners from which the expiry can be told, so that an answer needs to show no more than the owner.
use Rattle.std.specs.Prelude.{◌≡◌, ◌≢◌, ℕ, List, Some, slice_get}
use Rattle.std.specs.List.{AllByRecursion}
use Rattle.svid_claims.specs.Groups.{Answer, End, Entry, Event, Put, Terms, happen, start}
use Rattle.svid_claims.specs.Owners.{withdrawn}

-- the owner of an entry tells its expiry, if it is no withdrawal
abbrev pub TellsExpiry : (List ℕ → ℕ) → Entry → Type 0
TellsExpiry told e = e.owner ≢ withdrawn → told e.owner ≡ e.exp

-- so do the owners that an event puts
abbrev pub PutsTelling : (List ℕ → ℕ) → Event → Type 0
PutsTelling told (Put key owner exp time) = TellsExpiry told (record { owner = owner; exp = exp })
PutsTelling told (End s entries deaf) = (key : List ℕ) (e : Entry) → entries key ≡ Some e → TellsExpiry told e
PutsTelling told _ = Unit {0}

-- then an answer that found an owner found its expiry
abbrev pub OwnersTellExpiries : Type 0
OwnersTellExpiries = (t : Terms) (events : List Event) (told : List ℕ → ℕ) (i : ℕ) (a : Answer)
    → AllByRecursion (PutsTelling told) events → slice_get (happen t start events).answers i ≡ Some a → a.found.owner ≢ withdrawn → told a.found.owner ≡ a.found.exp
