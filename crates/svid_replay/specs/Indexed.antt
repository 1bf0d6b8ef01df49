use Rattle.std.specs.Prelude.{◌≡◌, ℕ, Bool, true, false, List, [], ◌∷◌, Option, Some, None, length, nat_lt, if◌then◌else◌}
use Rattle.std.specs.List.{list_any}
use Rattle.std.specs.List.Sorted.{IsStrictlySortedBy}
use Rattle.std.specs.Ordering.{nat_cmp, bool_cmp, ordering_then, eq_by_cmp}
use Rattle.std.specs.Cmp.Lexicographic.{slice_cmp}
use Rattle.std.specs.declared.cmp.Ordering.{Ordering}
use Rattle.svid_replay.specs.declared.token_use.Use.{Use}
use Rattle.svid_replay.specs.declared.key_first.KeyFirst.{KeyFirst}
use Rattle.svid_replay.specs.Twice.{has_key, withdraws}
use Rattle.svid_replay.specs.Use.{IsRising, use_cmp}

-- the order by key: by key, then withdrawals after uses, by exp, by validator ID, by at
abbrev pub key_first_cmp : KeyFirst → KeyFirst → Ordering
key_first_cmp j k = ordering_then (slice_cmp nat_cmp j.key k.key) (ordering_then (bool_cmp j.withdrawn k.withdrawn) (ordering_then (nat_cmp j.exp k.exp) (ordering_then (slice_cmp nat_cmp j.validator_id k.validator_id) (nat_cmp j.at k.at))))

-- a use with its key first, and then its kind
abbrev pub key_first : Use → KeyFirst
key_first u = record { key = u.key; withdrawn = u.withdrawn; exp = u.exp; validator_id = u.validator_id; at = u.at }

-- what a look-up by key finds: a use of the key, or a withdrawal of it
abbrev pub is_sought : Bool → List ℕ → Use → Bool
is_sought false key u = has_key key u
is_sought true key u = withdraws key u

-- whether the list has the use
abbrev pub has_use : List Use → Use → Bool
has_use us u = list_any (eq_by_cmp use_cmp u) us

-- whether the list by key has it
abbrev pub has_key_first : List KeyFirst → KeyFirst → Bool
has_key_first ks k = list_any (eq_by_cmp key_first_cmp k) ks

-- two lists, in order by use and by key, that have the same uses, each with a validator ID of 16 bytes
pub record IsIndexed (us : List Use) (ks : List KeyFirst) : Type 0 where
  pub rising : IsRising us
  pub by_key : IsStrictlySortedBy key_first_cmp ks
  pub same : (u : Use) → has_key_first ks (key_first u) ≡ has_use us u
  pub wide : (u : Use) → has_use us u ≡ true → length u.validator_id ≡ 16

-- the least of rising uses, where it expires at the moment or before
abbrev pub first_expired : ℕ → List Use → Option Use
first_expired moment [] = None
first_expired moment (u ∷ us) = if nat_lt moment u.exp then None else Some u
