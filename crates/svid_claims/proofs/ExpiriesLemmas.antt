-- Owners from which the expiry can be told.
use Rattle.std.proofs.Common.{ℕ, List, [], ◌∷◌}
use Rattle.std.specs.List.{AllByRecursion}
use Rattle.svid_claims.specs.Groups.{Accept, End, Event, Put, Remove, Restart, Tell, Terms, Tick}
use Rattle.svid_claims.specs.Expiries.{OwnersTellExpiries, PutsTelling, TellsExpiry}
use Rattle.svid_claims.proofs.PutsLemmas.{PutsOnly, found_are}

telling : (t : Terms) (told : List ℕ → ℕ) (event : Event) → PutsTelling told event → PutsOnly t (TellsExpiry told) event
telling t told (Put key owner exp time) h = h
telling t told (End s entries deaf) h = h
telling t told (Remove key now) h = tt
telling t told (Tick v now) h = tt
telling t told (Accept v now index) h = tt
telling t told (Tell v u) h = tt
telling t told (Restart v moment uses) h = tt

all_telling : (t : Terms) (told : List ℕ → ℕ) (events : List Event) → AllByRecursion (PutsTelling told) events → AllByRecursion (PutsOnly t (TellsExpiry told)) events
all_telling t told [] h = tt
all_telling t told (event ∷ events) h = (telling t told event h.0, all_telling t told events h.1)

pub owners_tell_expiries : OwnersTellExpiries
owners_tell_expiries t events told i a is at ne = found_are t (TellsExpiry told) events i a (all_telling t told events is) at ne
