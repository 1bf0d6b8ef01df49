use Rattle.std.specs.Prelude.{◌≡◌, ◌↔◌, ◌||◌, ◌&&◌, ℕ, Bool, false, List, Option, length, nat_lt, find, refl, Contains, IsTrue}
use base.Stored.{coded_unit}
use Rattle.std.specs.Coded.{Coded, code_by, coded×, coded_bool, coded_list, coded_ℕ}
use Rattle.std.specs.FinMap as finmap
use Rattle.std.specs.List.{list_any}
use Rattle.std.specs.Ordering.{eq_by_cmp}
use Rattle.svid_replay.specs.declared.token_use.Use.{Use}
use Rattle.svid_replay.specs.Batches.{is_after}
use Rattle.svid_replay.specs.Sets.{Set, empty, holds, keep, rising, set_of, union, with}
use Rattle.svid_replay.specs.Twice.{has_key, withdraws}
use Rattle.svid_replay.specs.Use.{use_cmp}

-- a finite set of uses
abbrev pub Uses : Type 0
Uses = Set use_cmp

-- a use is stored as the tuple of its fields
abbrev pub use_code : Coded Use
use_code =
    code_by (ℕ × (List ℕ × (List ℕ × (ℕ × Bool)))) (coded× coded_ℕ (coded× (coded_list coded_ℕ) (coded× (coded_list coded_ℕ) (coded× coded_ℕ coded_bool)))) (λ u. (u.exp, (u.key, (u.validator_id, (u.at, u.withdrawn))))) (λ p. record { exp = p.0; key = p.1.0; validator_id = p.1.1.0; at = p.1.1.1.0; withdrawn = p.1.1.1.1 }) (λ _. refl)

-- a set is stored as the list of its uses
abbrev pub uses_code : Coded Uses
uses_code = finmap.code use_code coded_unit

-- the set of no uses
abbrev pub no_uses : Uses
no_uses = empty use_cmp

-- the set of a list's uses
abbrev pub uses_in : List Use → Uses
uses_in us = set_of use_cmp us

-- the uses that expire after the moment
abbrev pub live : Uses → ℕ → Uses
live s moment = keep (λ u. nat_lt moment u.exp) s

-- some use of the set has this key
abbrev pub has_use_of : Uses → List ℕ → Bool
has_use_of s key = list_any (has_key key) (rising s)

-- some withdrawal of the set has this key
abbrev pub has_withdrawal_of : Uses → List ℕ → Bool
has_withdrawal_of s key = list_any (withdraws key) (rising s)

-- how many uses the set has
abbrev pub count : Uses → ℕ
count s = length (rising s)

-- the least use of the set, or the least that is greater than the one given
abbrev pub next_above : Uses → Option Use → Option Use
next_above s after = find (is_after after) (rising s)

-- the set of no uses holds nothing
abbrev pub NoUsesHoldNone : Type 0
NoUsesHoldNone = (u : Use) → holds no_uses u ≡ false

-- a set with one more use holds that use, and what it held before
abbrev pub WithHoldsOneMore : Type 0
WithHoldsOneMore = (s : Uses) (new u : Use) → holds (with s new) u ≡ (eq_by_cmp use_cmp u new || holds s u)

-- a union holds what either set holds
abbrev pub UnionHoldsEither : Type 0
UnionHoldsEither = (s t : Uses) (u : Use) → holds (union s t) u ≡ (holds s u || holds t u)

-- `live` holds the uses of a set that expire after the moment
abbrev pub LiveHoldsUnexpired : Type 0
LiveHoldsUnexpired = (s : Uses) (moment : ℕ) (u : Use) → holds (live s moment) u ≡ (holds s u && nat_lt moment u.exp)

-- a set holds the uses of its rising list
abbrev pub RisingHasHeld : Type 0
RisingHasHeld = (s : Uses) (u : Use) → IsTrue (holds s u) ↔ Contains (rising s) u

-- sets that hold the same uses are equal
abbrev pub SameHeldSameSet : Type 0
SameHeldSameSet = (s t : Uses) → ((u : Use) → holds s u ≡ holds t u) → s ≡ t
