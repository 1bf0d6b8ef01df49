use Rattle.std.specs.Prelude.{◌≡◌, ◌≢◌, ◌↔◌, ◌&&◌, ℕ, Bool, false, List, [], ◌∷◌, length, map, filter, nat_lt, not, All, Contains}
use Rattle.std.specs.List.{AllByRecursion}
use Rattle.std.specs.List.Sorted.{IsStrictlySortedBy}
use Rattle.std.specs.Ordering.{is_eq, is_lt}
use Rattle.svid_replay.specs.declared.token_use.Use.{Use}
use Rattle.svid_replay.specs.declared.twice.Twice.{Twice}
use Rattle.svid_replay.specs.Sets.{rising, set_of}
use Rattle.svid_replay.specs.Use.{bytes_cmp}

-- a use has this key
abbrev pub has_key : List ℕ → Use → Bool
has_key key u = is_eq (bytes_cmp key u.key)

-- a withdrawal has this key
abbrev pub withdraws : List ℕ → Use → Bool
withdraws key u = has_key key u && u.withdrawn

-- the uses that are no withdrawals, in their order
abbrev pub used : List Use → List Use
used us = filter (λ u. not u.withdrawn) us

-- the uses of one key, in their order
abbrev pub uses_of : List ℕ → List Use → List Use
uses_of key us = filter (has_key key) us

-- the different keys of uses, rising
unfoldable pub keys_of : List Use → List (List ℕ)
keys_of us = rising (set_of bytes_cmp (map (λ u. u.key) us))

-- the keys that more than one of the uses has, rising, each with its uses
unfoldable pub twice_of : List Use → List Twice
twice_of us = filter (λ t. nat_lt 1 (length t.uses)) (map (λ key. record { key = key; uses = uses_of key us }) (keys_of us))

-- no use has a lesser key than one before it
abbrev pub IsKeySorted : List Use → Type 0
IsKeySorted [] = Unit {0}
IsKeySorted (u ∷ us) = AllByRecursion (λ v. is_lt (bytes_cmp v.key u.key) ≡ false) us × IsKeySorted us

-- two different uses have this key
pub record HasTwo (key : List ℕ) (us : List Use) : Type 0 where
  pub one : Use
  pub other : Use
  pub differ : one ≢ other
  pub one_in : Contains us one
  pub other_in : Contains us other
  pub one_key : one.key ≡ key
  pub other_key : other.key ≡ key

-- the listed keys rise, a key is listed exactly where two different uses have it, and each stands with all its uses
pub record IsTwice (us : List Use) (listed : List Twice) : Type 0 where
  pub rising : IsStrictlySortedBy bytes_cmp (map (λ t. t.key) listed)
  pub exactly : (key : List ℕ) → Contains (map (λ t. t.key) listed) key ↔ HasTwo key us
  pub whole : All (λ t. t.uses ≡ uses_of t.key us) listed
