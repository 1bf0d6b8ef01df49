-- What the functions of this crate compute, as events of a group.
use Rattle.std.specs.Prelude.{◌≡◌, ℕ, ◌^◌, ◌<◌, ◌≤◌, true, false, List, slice_get, Option, Some}
use Rattle.std.specs.List.{AllByRecursion}
use Rattle.svid_claims.specs.declared.claim.Claim.{Claim}
use Rattle.svid_claims.specs.declared.claim.Found.{Found}
use Rattle.svid_claims.specs.declared.outcome.Outcome.TheVariants.{Mine}
use Rattle.svid_claims.specs.Expiries.{PutsTelling, TellsExpiry}
use Rattle.svid_claims.specs.Groups.{Accepts, Answer, End, Entry, Event, Terms, World, happen, happens, is_used, moment_of, start}
use Rattle.svid_claims.specs.Outcomes.{outcome_of}
use Rattle.svid_claims.specs.Times.{capped, deaf_after}

-- an answer of a store, as a member gets it: without the expiry, and with a `deaf` of 64 bits
abbrev pub found_by : Answer → Found
found_by a = record { owner = record { bytes = a.found.owner }; time = a.time; deaf = capped a.deaf }

-- the entry that a claim puts
abbrev pub entry_of : Claim → Entry
entry_of c = record { owner = c.owner.bytes; exp = c.exp }

-- Where each owner tells its expiry: a claim has the outcome `Mine` by an answer where the answer found it and the member accepts by it, in a strict
-- group if the claim is of its life and it knows no live use of the key; and nowhere else.
abbrev pub AnswersAreEvents : Type 0
AnswersAreEvents = (t : Terms) (events : List Event) (told : List ℕ → ℕ) (v now i : ℕ) (a : Answer) (c : Claim)
    → let w = happen t start events in
    let x = w.members v in
    let moment = moment_of (t.ahead v) x now a in
    let outcome = outcome_of c (found_by a) t.lasts moment in
    AllByRecursion (PutsTelling told) events → TellsExpiry told (entry_of c) → c.exp < 2 ^ 64 → slice_get w.answers i ≡ Some a
    → (outcome ≡ Mine → (t.strict ≡ true → (c.owner.bytes ≡ t.owner v x.life c.exp) × (is_used x.uses a.key moment ≡ false)) → Accepts t w v now i a × (a.found ≡ entry_of c))
    × (Accepts t w v now i a → a.found.owner ≡ c.owner.bytes → outcome ≡ Mine)

-- an epoch that ends with the `deaf` of a time that no answer of it passes has that `deaf`, and so it is in 64 bits
abbrev pub EndsAreEvents : Type 0
EndsAreEvents = (t : Terms) (w : World) (s time : ℕ) (entries : List ℕ → Option Entry)
    → let y = w.stores s in
    let z = (happens t w (End s entries (deaf_after time t.lasts y.deaf))).stores s in
    y.latest ≤ time → (z.deaf ≡ deaf_after time t.lasts y.deaf) × (capped z.deaf ≡ capped (deaf_after time t.lasts (capped y.deaf)))
